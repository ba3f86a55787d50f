-- A store in a context leaves each cell, or it is of a page of the context's own, with a value before and after.
use Rattle.std.proofs.Common.{◌≡◌, ◌⊎◌, ◌∙◌, inl, inr, ℕ, true, Option, None, Some, List, [], ◌∷◌, length, ap, refl, subst, sym}
use Rattle.std.proofs.lemmas.Bool.{false≢true}
use Rattle.confinement.proofs.Decide.{key_or_not, name_or_not}
use Rattle.lwc_base.proofs.Common.{put-other_cell}
use Rattle.lwc_base.proofs.Keys.{with_key-itself}
use Rattle.lwc_base.proofs.Lookups.{changes-change_context, changes-change_group}
use Rattle.lwc_base.proofs.Puts.{after_put_at, names-put_at}
use Rattle.lwc_base.proofs.Stored.{is_done}
use Rattle.lwc_base.specs.Cells.{put_page, with_cell}
use Rattle.lwc_base.specs.Keys.{is_there}
use Rattle.lwc_base.specs.Memory.{touched}
use Rattle.lwc_base.specs.Store.{Done, Piece, after_store, put_pages, store, stored_pages}
use Rattle.lwc_base.specs.World.{Context, World, change_context, change_counters, context, is_live}
use Rattle.lwc_base.specs.declared.cell.Cell.{Cell}
use Rattle.lwc_base.specs.declared.cell.Cell.TheVariants.{Own}
use Rattle.lwc_types.specs.declared.key.Key.{Key}
use Rattle.lwc_types.specs.declared.key.Key.TheVariants.{Page}
use Rattle.lwc_types.specs.declared.name.Name.{Name}
use Rattle.lwc_types.specs.declared.page.PageValue.{PageValue}
use Rattle.lwc_monitor.specs.Contexts.{IsOwnPage, IsOwnValue}

abbrev pub StaysOwn : Name → World → World → Name → Key → Type 0
StaysOwn c w v e k =
    ((context v e).cell k ≡ (context w e).cell k) ⊎ ((e ≡ c) × IsOwnPage k ((context w e).cell k) × IsOwnPage k ((context v e).cell k))

module _ (c : Name) (e : Name) (k : Key) where
  stays_then : (w u v : World) → StaysOwn c w u e k → StaysOwn c u v e k → StaysOwn c w v e k
  stays_then w u v (inl first) (inl second) = inl (second ∙ first)
  stays_then w u v (inl first) (inr own) = inr (own.0, subst (IsOwnPage k) first own.1, own.2)
  stays_then w u v (inr own) (inl second) = inr (own.0, own.1, subst (IsOwnPage k) (sym second) own.2)
  stays_then w u v (inr own) (inr later) = inr (own.0, own.1, later.2)

  module _ (u : World) (p : ℕ) (value : PageValue) (live : is_live u c ≡ true) where
    was_own : (old : Option PageValue) → (context u c).cell (Page p) ≡ Own old → is_there (Page p) old ≡ true → IsOwnValue ((context u c).cell (Page p))
    was_own None is there = absurd (false≢true there)
    was_own (Some before) is there = subst IsOwnValue (sym is) tt

    now_own : IsOwnValue ((context (change_context u c (with_cell (Page p) (Own (Some value)))) c).cell (Page p))
    now_own =
        subst IsOwnValue (sym (ap (λ (y : Context). y.cell (Page p)) ((changes-change_context u c (with_cell (Page p) (Own (Some value)))).changed live)
        ∙ with_key-itself Cell (Page p) (Own (Some value)) (context u c).cell)) tt

    put_here : StaysOwn c u (put_page u c p value) c (Page p)
    put_here =
        after_put_at (λ v. StaysOwn c u v c (Page p)) u c (Page p) (Some value) (λ old own absent. inl refl) (λ old own there. inr (refl, was_own old own there, now_own))
        (λ g common. inl (ap (λ (y : Context). y.cell (Page p)) ((changes-change_group u g _).contexts c)))

    put_stays : StaysOwn c u (put_page u c p value) e k
    put_stays = elim (key_or_not k (Page p)) [
      | inr other ↦ inl (put-other_cell u c (Page p) (Some value) e k (λ is. other))
      | inl key ↦ elim (name_or_not e c) [
        | inr two ↦ inl (put-other_cell u c (Page p) (Some value) e k (λ is. absurd (two is)))
        | inl one ↦
            subst (λ (l : Key). StaysOwn c u (put_page u c p value) e l) (sym key) (subst (λ (n : Name). StaysOwn c u (put_page u c p value) n (Page p)) (sym one) put_here)
      ]
    ]

  pages_stay : (u : World) (values : List (ℕ × PageValue)) → is_live u c ≡ true → StaysOwn c u (put_pages u c values) e k
  pages_stay u [] live = inl refl
  pages_stay u (v ∷ vs) live =
      stays_then u (put_page u c v.0 v.1) _ (put_stays u v.0 v.1 live) (pages_stay (put_page u c v.0 v.1) vs ((names-put_at u c (Page v.0) (Some v.1)).live c ∙ live))

  pub store_stays : (w : World) (job : ℕ) (piece : Piece) (v : World) → is_live w c ≡ true → store w c job piece ≡ Done v → StaysOwn c w v e k
  unfolding after_store change_counters context
  store_stays w job piece v live is = subst (λ (u : World). StaysOwn c w u e k) (sym (is_done w c job piece v is).after) (pages_stay w (stored_pages w c job piece (w.next job).tags (touched piece.at (length piece.bytes))) live)
