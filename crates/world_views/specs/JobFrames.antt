-- The frames that a job uses.
use Rattle.std.specs.Prelude.{◌≡◌, ◌≢◌, ◌==◌, ℕ, List, true}
use Rattle.std.specs.FinSet as set
use Rattle.std.specs.List.{filter}
use Rattle.lwc_base.specs.Frames.{tags}
use Rattle.lwc_base.specs.Holders.{IsGroup}
use Rattle.lwc_base.specs.World.{World, context, is_live}
use Rattle.lwc_types.specs.declared.key.Key.TheVariants.{Page}
use Rattle.lwc_types.specs.declared.name.Name.{Name}
use Rattle.lwc_types.specs.declared.name.Tag.{Tag}
use Rattle.lwc_types.specs.Names.{tag_cmp}

-- the number of different tags in a list
unfoldable pub different : List Tag → ℕ
different ts = set.len (set.from_list {R = tag_cmp} ts)

-- the number of frames that a job uses: the different tags of the job at holders
unfoldable pub used_by : ℕ → World → ℕ
used_by job w = different (filter (λ tag. tag.job == job) (tags w))

-- each context of job 0 has the pages of the home, and no group is of job 0
pub record AreHomes (home : Name) (w : World) : Type 0 where
  pub contexts : (c : Name) → is_live w c ≡ true → c.job ≡ 0 → (p : ℕ) →
      (context w c).cell (Page p) ≡ (context w home).cell (Page p)
  pub groups : (g : Name) → IsGroup w g → g.job ≢ 0
