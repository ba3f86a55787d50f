-- What a world has in which a context has been made and its first pages mapped.
use Rattle.std.proofs.Common.{◌≡◌, true, false, ◌||◌, ℕ, ◌+◌, [], ◌∷◌, refl, subst, sym, ap, ◌∙◌}
use Rattle.std.specs.FinMap as fm
use Rattle.lwc_base.specs.Facts.{AddsContext, KeepsNames}
use Rattle.lwc_base.specs.Fresh.{IsFresh}
use Rattle.lwc_base.specs.Mapping.{map_pages}
use Rattle.lwc_base.specs.World.{World, Context, Group, is_live, next_context, add_context, empty_world}
use Rattle.lwc_base.specs.Life.{Root, reap}
use Rattle.lwc_base.proofs.Facts.{changes, counts, stays_fresh}
use Rattle.lwc_base.proofs.Reaped.{kept-by_way}
use Rattle.lwc_types.specs.declared.counters.Counters.{Counters}
use Rattle.lwc_types.specs.declared.name.Name.{Name}
use Rattle.lwc_types.specs.declared.size.WorldSize.{WorldSize}
use Rattle.lwc_types.specs.Names.{name_cmp}
use Rattle.lwc_types.proofs.Orders.{name-itself}
use Rattle.world_face.specs.Calls.{IsLive}
use Rattle.world_suite.specs.Begun.{IsBegun}

pub counts-empty : (size : WorldSize) (job : ℕ) → (empty_world size).next job ≡ record { contexts = 0; groups = 0; tags = 0 }
unfolding empty_world
counts-empty size job = refl

pub size-empty : (size : WorldSize) → (empty_world size).size ≡ size
unfolding empty_world
size-empty size = refl

-- nothing lives in an empty one
pub none-empty : (size : WorldSize) → fm.len (empty_world size).contexts ≡ 0
unfolding empty_world
none-empty size = fm.len-empty name_cmp Context

-- nor does a group
no_group-empty : (size : WorldSize) → fm.len (empty_world size).groups ≡ 0
unfolding empty_world
no_group-empty size = fm.len-empty name_cmp Group

module _ (size : WorldSize) (opened made mapped : World) (c : Name) (x : Context) (from to : ℕ)
    (is_opened : opened ≡ empty_world size) (is_made : made ≡ add_context opened 0 x) (is_named : c ≡ next_context opened 0)
    (is_mapped : mapped ≡ map_pages made c from to) where
  added : AddsContext opened 0 x made
  added = subst (AddsContext opened 0 x) (sym is_made) (changes.context_added opened 0 x)

  kept : KeepsNames made mapped
  kept = subst (KeepsNames made) (sym is_mapped) (changes.mapped made c from to).names

  pub live-made : is_live made c ≡ true
  live-made = ap (is_live made) is_named ∙ added.live

  pub live-begun : is_live mapped c ≡ true
  live-begun = kept.live c ∙ live-made

  pub size-made : made.size ≡ size
  size-made = added.size ∙ ap (λ (w : World). w.size) is_opened ∙ size-empty size

  pub size-begun : mapped.size ≡ size
  size-begun = kept.size ∙ size-made

  -- job 1 has counted nothing
  pub next-begun : mapped.next 1 ≡ record { contexts = 0; groups = 0; tags = 0 }
  next-begun = ap (λ (f : ℕ → Counters). f 1) (kept.next ∙ added.next) ∙ ap (λ (w : World). w.next 1) is_opened ∙ counts-empty size 1

  -- one context lives
  pub one-begun : fm.len mapped.contexts ≡ 1
  one-begun =
      (counts.same_contexts made mapped 0 kept.live).1
      ∙ (counts.context_added opened made 0 0 x (subst IsFresh (sym is_opened) (stays_fresh.empty size)) added).1
      ∙ ap (λ n. n + 1) (ap (λ (w : World). fm.len w.contexts) is_opened ∙ none-empty size)

  -- and no group
  pub no_group-begun : fm.len mapped.groups ≡ 0
  no_group-begun =
      (counts.same_groups made mapped 0 kept.groups).1 ∙ ap (fm.len {R = name_cmp}) added.groups
      ∙ ap (λ (w : World). fm.len w.groups) is_opened ∙ no_group-empty size

-- the context is live still after a change that keeps it, and it may have four pages
pub stays : (frames : ℕ) (w v u : World) (c : Name) → u ≡ v → is_live v c ≡ is_live w c → v.size ≡ w.size → IsBegun frames w c → IsLive u c × (u.size.pages ≡ 4)
stays frames w v u c same live size begun =
    (ap (λ (x : World). is_live x c) same ∙ live ∙ begun.live, ap (λ (x : World). x.size.pages) same ∙ ap (λ (s : WorldSize). s.pages) (size ∙ begun.size))

-- a context that is the root lives on
pub kept_root : (w : World) (c : Name) → IsLive w c → IsLive (reap w (c ∷ [])) c
kept_root w c live =
    let itself = name-itself c in
    kept-by_way w (c ∷ []) c live (Root c (ap (λ b. b || false) itself))
