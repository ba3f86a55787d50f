-- What small of a world leave under each name, and what is under a context's keys.
use Rattle.std.proofs.Common.{◌≡◌, refl, ap, ◌∙◌, cond, Option, Some, None}
use Rattle.std.specs.Option.{option_map}
use Rattle.std.specs.Ordering.{eq_by_cmp}
use Rattle.std.specs.FinMap as fm
use Rattle.lwc_base.specs.World.{World, Context, Group, change_context, changed_context, change_group, changed_group}
use Rattle.lwc_types.specs.Names.{name_cmp}
use Rattle.lwc_types.specs.declared.name.Name.{Name}
use Rattle.world_views.proofs.JobTables.{changed_entry, get-changed_entry}

module _ (w : World) (c : Name) where
  module _ (f : Context → Context) where
    contexts-changed : (o : Option Context) → (changed_context w c f o).contexts ≡ changed_entry w.contexts c f o
    contexts-changed None = refl
    contexts-changed (Some x) = refl

    pub get-change_context : (q : Name) →
        fm.get (change_context w c f).contexts q ≡ cond (eq_by_cmp name_cmp q c) (option_map f (fm.get w.contexts q)) (fm.get w.contexts q)
    unfolding change_context
    get-change_context q = ap (λ (m : fm.FinMap name_cmp Context). fm.get m q) (contexts-changed (fm.get w.contexts c)) ∙ get-changed_entry w.contexts c f q

    groups-changed : (o : Option Context) → (changed_context w c f o).groups ≡ w.groups
    groups-changed None = refl
    groups-changed (Some x) = refl

    pub groups-change_context : (change_context w c f).groups ≡ w.groups
    unfolding change_context
    groups-change_context = groups-changed (fm.get w.contexts c)

  module _ (f : Group → Group) where
    groups-changed_group : (o : Option Group) → (changed_group w c f o).groups ≡ changed_entry w.groups c f o
    groups-changed_group None = refl
    groups-changed_group (Some x) = refl

    pub get-change_group : (q : Name) →
        fm.get (change_group w c f).groups q ≡ cond (eq_by_cmp name_cmp q c) (option_map f (fm.get w.groups q)) (fm.get w.groups q)
    unfolding change_group
    get-change_group q = ap (λ (m : fm.FinMap name_cmp Group). fm.get m q) (groups-changed_group (fm.get w.groups c)) ∙ get-changed_entry w.groups c f q

    contexts-changed_group : (o : Option Group) → (changed_group w c f o).contexts ≡ w.contexts
    contexts-changed_group None = refl
    contexts-changed_group (Some x) = refl

    pub contexts-change_group : (change_group w c f).contexts ≡ w.contexts
    unfolding change_group
    contexts-change_group = contexts-changed_group (fm.get w.groups c)
