-- Which values part, by their tags.
use Rattle.std.proofs.Common.{◌≡◌, option_to_list, ℕ, refl, ap, ◌∙◌, true, Option, Some, None}
use Rattle.std.specs.Prelude.{nat_lt, unwrap_or}
use Rattle.lwc_base.specs.Frames.{tag_of, tags, is_shared_tag, is_parting}
use Rattle.lwc_base.specs.World.{World}
use Rattle.lwc_types.specs.declared.name.Tag.{Tag}
use Rattle.lwc_types.specs.declared.page.PageValue.{PageValue}
use Rattle.lwc_types.specs.declared.page.PageValue.TheVariants.{Zero, Data}
use Rattle.whole_world.specs.Tags.{times}

shared-times : (w : World) (tag : Tag) → nat_lt 1 (times tag (tags w)) ≡ is_shared_tag w tag
unfolding times
shared-times w tag = refl

-- a value with a tag parts where the tag stands at more holders than one
pub parts-tagged : (w : World) (value : Option PageValue) (tag : Tag) (n : ℕ) → option_to_list (Some tag) ≡ tag_of value → n ≡ times tag (tags w) →
    nat_lt 1 n ≡ is_parting w (unwrap_or value Zero)
unfolding is_parting
parts-tagged w None tag n has count = cc
parts-tagged w (Some Zero) tag n has count = cc
parts-tagged w (Some (Data own bytes)) tag n has count =
    let same : tag ≡ own = cc in
    ap (nat_lt 1) count ∙ shared-times w tag ∙ ap (is_shared_tag w) same

-- a value without a tag parts
pub parts-untagged : (w : World) (value : Option PageValue) → option_to_list {X = Tag} None ≡ tag_of value → true ≡ is_parting w (unwrap_or value Zero)
unfolding is_parting
parts-untagged w None has = refl
parts-untagged w (Some Zero) has = refl
parts-untagged w (Some (Data own bytes)) has = cc
