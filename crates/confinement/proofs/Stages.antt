-- Worlds that an act comes to: what may be changed has changed at most, by one change after another.
use Rattle.std.proofs.Common.{◌≡◌, ◌≢◌, ◌⊎◌, inl, inr, ℕ, ◌+◌, ◌≤◌, ◌<◌, Bool, true, false, cond, eqb, Some, List, [], ◌∷◌, refl, ap, sym, subst, ◌∙◌, length, arith}
use Rattle.std.proofs.lemmas.Bool.Decides.{nat_tests}
use Rattle.guest_call.specs.Changes.{ChangesKey}
use Rattle.lwc_base.specs.declared.cell.Cell.{Cell}
use Rattle.lwc_base.specs.declared.cell.Cell.TheVariants.{Own, Common}
use Rattle.lwc_base.specs.declared.descriptor.Cap.{Cap}
use Rattle.lwc_base.specs.declared.descriptor.Descriptor.{Descriptor}
use Rattle.lwc_base.specs.declared.descriptor.Descriptor.TheVariants.{Ctx}
use Rattle.lwc_base.specs.Cells.{put_at, put_page, slot_at, value_at, value_of}
use Rattle.lwc_base.specs.Clones.{AreApart}
use Rattle.lwc_base.specs.Facts.{ChangesContext}
use Rattle.lwc_base.specs.Fresh.{IsNamedContext}
use Rattle.lwc_base.specs.Keys.{ValueOf}
use Rattle.lwc_base.specs.Mapping.{mapped_or_not, with_zeros, without_pages}
use Rattle.lwc_base.specs.Memory.{touched}
use Rattle.lwc_base.specs.Modes.{IsKey}
use Rattle.lwc_base.specs.Rights.{right_at}
use Rattle.lwc_base.specs.Saved.{save, with_saved}
use Rattle.lwc_base.specs.Sound.{HasItsGroups}
use Rattle.lwc_base.specs.Store.{Piece, after_store, page_value_at, parting_count, stored_pages, put_pages, store}
use Rattle.lwc_base.specs.Store as stores
use Rattle.lwc_base.specs.World.{World, Context, context, group, change_counters, is_live}
use Rattle.lwc_types.specs.declared.key.TheConstants.{SLOTS}
use Rattle.lwc_types.specs.declared.counters.Counters.{Counters}
use Rattle.lwc_types.specs.declared.key.Key.{Key}
use Rattle.lwc_types.specs.declared.key.Key.TheVariants.{Page, Slot, Cred}
use Rattle.lwc_types.specs.declared.name.Name.{Name}
use Rattle.lwc_types.specs.declared.page.PageValue.{PageValue}
use Rattle.lwc_types.specs.declared.regs.Regs.{Regs}
use Rattle.lwc_types.specs.declared.right.Right.{Right}
use Rattle.confinement.proofs.Decide.{same_then, value_same, apart_or_one, key_or_not, name_or_not, number_or_not}
use Rattle.confinement.specs.One.{IsOneValue}
use Rattle.guest_call.proofs.Changes.{putting, saving}
use Rattle.lwc_base.proofs.Common.{apart-put_at, put-apart, put-old_or_new, put-other_cell, put-other_key}
use Rattle.lwc_base.proofs.Facts.{changes}

-- what an act may do: which key of which context it may change, of which context it may save a thread's registers, and which
-- capability for which context it may leave
pub record Allowance : Type 1 where
  pub change : Name → Key → Type 0
  pub saving : Name → ℕ → Type 0
  pub capability : Name → Cap → Type 0

-- a value that may be put under a key
abbrev pub IsAllowed : Allowance → (k : Key) → ValueOf k → Type 0
IsAllowed r (Page p) value = Unit {0}
IsAllowed r (Slot n) value = (d : Name) (cap : Cap) → value ≡ Ctx d cap → r.capability d cap
IsAllowed r Cred value = Unit {0}

-- a pair that may be changed has the key and this context, or one that has it in common
abbrev pub Seen : Allowance → World → Name → Key → Type 0
Seen r w e k = (a : Name) × r.change a k × IsOneValue w a e k

-- a descriptor of a context stood in the slot before, or its capability may be left
abbrev pub Had : Allowance → World → Name → ℕ → Name → Cap → Type 0
Had r w e n d cap = (slot_at w e n ≡ Ctx d cap) ⊎ r.capability d cap

-- what has changed might be changed
pub record Confines (r : Allowance) (w v : World) : Type 0 where
  pub cells : (e : Name) (k : Key) → is_live w e ≡ true → IsKey w.size.pages k → ((context v e).cell k ≡ (context w e).cell k) ⊎ r.change e k
  pub rights : (e : Name) (p : ℕ) → is_live w e ≡ true → IsKey w.size.pages (Page p) → (right_at v e p ≡ right_at w e p) ⊎ r.change e (Page p)
  pub values : (e : Name) (k : Key) → is_live w e ≡ true → IsKey w.size.pages k → (value_at v e k ≡ value_at w e k) ⊎ Seen r w e k
  pub entries : (e : Name) → is_live w e ≡ true → (context v e).entry ≡ (context w e).entry
  pub saved : (e : Name) (s : ℕ) → is_live w e ≡ true → ((context v e).saved s ≡ (context w e).saved s) ⊎ r.saving e s
  pub capabilities : (e d : Name) (n : ℕ) (cap : Cap) → is_live v e ≡ true → n < SLOTS → slot_at v e n ≡ Ctx d cap → Had r w e n d cap
  pub live : (e : Name) → is_live v e ≡ true → IsNamedContext w.next e → is_live w e ≡ true
  pub stays : (e : Name) → is_live w e ≡ true → is_live v e ≡ true
  pub counted : (j : ℕ) → (w.next j).contexts ≤ (v.next j).contexts
  pub size : v.size ≡ w.size

-- and contexts that were apart still are
pub record Stage (r : Allowance) (w v : World) : Type 0 where
  pub confines : Confines r w v
  pub apart : (a b : Name) (k : Key) → is_live w a ≡ true → is_live w b ≡ true → AreApart w a b k → AreApart v a b k

module _ (r : Allowance) (w : World) (groups : HasItsGroups w) where
  -- nothing has changed
  pub none : Stage r w w
  none = record {
    confines = record {
      cells = λ e k here key. inl refl;
      rights = λ e p here key. inl refl;
      values = λ e k here key. inl refl;
      entries = λ e here. refl;
      saved = λ e s here. inl refl;
      capabilities = λ e d n cap here slot is. inl is;
      live = λ e here named. here;
      stays = λ e here. here;
      counted = λ j. omega arith;
      size = refl;
    };
    apart = λ a b k first second is. is;
  }

  -- what is read under the key of a put is the same, or it is one with what was put
  at_key : (u : World) → Stage r w u → (c : Name) (q : Key) (value : ValueOf q) → is_live w c ≡ true → (IsKey w.size.pages q → r.change c q) → (e : Name) → is_live w e ≡ true → IsKey w.size.pages q →
      (value_at (put_at u c q value) e q ≡ value_at w e q) ⊎ Seen r w e q
  at_key u stage c q value live allowed e here key = elim (apart_or_one w groups c e q) [
    | inl apart ↦ same_then _ _ _ (put-apart u c q value e (stage.apart c e q live here apart)) (stage.confines.values e q here key)
    | inr one ↦ inr (c, allowed key, one)
  ]

  -- a descriptor of a context that is read after a put was read before, or was put
  cap_at : (u : World) → Stage r w u → (c : Name) (q : Key) (value : ValueOf q) → IsAllowed r q value → (e d : Name) (n : ℕ) (cap : Cap) → is_live u e ≡ true → n < SLOTS →
      Slot n ≡ q → slot_at (put_at u c q value) e n ≡ Ctx d cap → Had r w e n d cap
  cap_at u stage c (Page p) value ok e d n cap here slot same is = absurd cc
  cap_at u stage c Cred value ok e d n cap here slot same is = absurd cc
  cap_at u stage c (Slot m) value ok e d n cap here slot same is =
      let one : n ≡ m = cc in
      let read : slot_at (put_at u c (Slot m) value) e m ≡ Ctx d cap = subst (λ (i : ℕ). slot_at (put_at u c (Slot m) value) e i ≡ Ctx d cap) one is in
      subst (λ (i : ℕ). Had r w e i d cap) (sym one)
      (elim (put-old_or_new u c (Slot m) value e) [
        | inl old ↦ stage.confines.capabilities e d m cap here (subst (λ (i : ℕ). i < SLOTS) one slot) (sym old ∙ read)
        | inr new ↦ inr (ok d cap (sym new ∙ read))
      ])

  -- one more put where something may be changed
  pub put_on : (u : World) → Stage r w u → (c : Name) (q : Key) (value : ValueOf q) → is_live w c ≡ true → (IsKey w.size.pages q → r.change c q) → IsAllowed r q value → Stage r w (put_at u c q value)
  put_on u stage c q value live allowed ok =
      let put : ChangesKey u (put_at u c q value) c q = putting u c q value in
      let was = stage.confines in
      record {
        confines = record {
          cells = λ e k here key. elim (key_or_not k q) [
            | inl same ↦ elim (name_or_not e c) [
              | inl one ↦ inr (subst (λ (n : Name). r.change n k) (sym one) (subst (r.change c) (sym same) (allowed (subst (IsKey w.size.pages) same key))))
              | inr two ↦ same_then _ _ _ (put-other_cell u c q value e k (λ is. absurd (two is))) (was.cells e k here key)
            ]
            | inr other ↦ same_then _ _ _ (put-other_cell u c q value e k (λ is. other)) (was.cells e k here key)
          ];
          rights = λ e p here key. same_then _ _ _ (ap (λ (f : ℕ → Right). f p) (put.rights e)) (was.rights e p here key);
          values = λ e k here key. elim (key_or_not k q) [
            | inl same ↦ subst (λ (l : Key). (value_at (put_at u c q value) e l ≡ value_at w e l) ⊎ Seen r w e l) (sym same)
                (at_key u stage c q value live allowed e here (subst (IsKey w.size.pages) same key))
            | inr other ↦ same_then _ _ _ (put-other_key u c q value e k other) (was.values e k here key)
          ];
          entries = λ e here. put.entries e ∙ was.entries e here;
          saved = λ e s here. same_then _ _ _ (put.saved e s) (was.saved e s here);
          capabilities = λ e d n cap here slot is. elim (key_or_not (Slot n) q) [
            | inl same ↦ cap_at u stage c q value ok e d n cap (sym (put.names.live e) ∙ here) slot same is
            | inr other ↦ was.capabilities e d n cap (sym (put.names.live e) ∙ here) slot (sym (put-other_key u c q value e (Slot n) other) ∙ is)
          ];
          live = λ e here named. was.live e (sym (put.names.live e) ∙ here) named;
          stays = λ e here. put.names.live e ∙ was.stays e here;
          counted = λ j. subst (λ (next : ℕ → Counters). (w.next j).contexts ≤ (next j).contexts) (sym put.names.next) (was.counted j);
          size = put.names.size ∙ was.size;
        };
        apart = λ a b k first second is. apart-put_at u c q value a b k (stage.apart a b k first second is);
      }

  -- pages of a context that may be changed get new values
  pages_on : (u : World) → Stage r w u → (c : Name) (values : List (ℕ × PageValue)) → is_live w c ≡ true → ((p : ℕ) → IsKey w.size.pages (Page p) → r.change c (Page p)) → Stage r w (put_pages u c values)
  pages_on u stage c [] live allowed = stage
  pages_on u stage c (x ∷ xs) live allowed = pages_on (put_page u c x.0 x.1) (put_on u stage c (Page x.0) (Some x.1) live (allowed x.0) tt) c xs live allowed

  -- jobs count more tags
  counters_on : (u : World) → Stage r w u → (job : ℕ) (f : Counters → Counters) → ((n : Counters) → (f n).contexts ≡ n.contexts) → Stage r w (change_counters u job f)
  unfolding change_counters value_at context group
  counters_on u stage job f keeps =
      let was = stage.confines in
      record {
        confines = record {
          cells = was.cells;
          rights = was.rights;
          values = was.values;
          entries = was.entries;
          saved = was.saved;
          capabilities = was.capabilities;
          live = was.live;
          stays = was.stays;
          counted = λ j. by_job j (eqb j job);
          size = was.size;
        };
        apart = λ a b k first second is. let still = stage.apart a b k first second is in record { differ = still.differ; no_group = still.no_group };
      }
    where
      by_job : (j : ℕ) (b : Bool) → (w.next j).contexts ≤ (cond b (f (u.next j)) (u.next j)).contexts
      by_job j true = omega (arith, keeps (u.next j), stage.confines.counted j)
      by_job j false = stage.confines.counted j

  -- bytes are stored in a context that may be changed
  pub store_on : (c : Name) (job : ℕ) (piece : Piece) (v : World) → Stage r w w → is_live w c ≡ true → ((p : ℕ) → IsKey w.size.pages (Page p) → r.change c (Page p)) → store w c job piece ≡ stores.Done v → Stage r w v
  unfolding store after_store
  store_on c job piece v start live allowed is =
      let values = stored_pages w c job piece (w.next job).tags (touched piece.at (length piece.bytes)) in
      let left = pages_on w start c values live allowed in
      let f = λ (n : Counters). record n { tags = n.tags + parting_count w c piece } in
      let done : v ≡ change_counters (put_pages w c values) job f = grind arith in
      subst (Stage r w) (sym done) (counters_on (put_pages w c values) left job f (λ n. refl))

  -- a context that may be changed is another one
  pub record Turns (c : Name) (x y : Context) (u : World) : Type 0 where
    pub cell : (k : Key) → IsKey w.size.pages k → (y.cell k ≡ x.cell k) ⊎ r.change c k
    pub right : (p : ℕ) → IsKey w.size.pages (Page p) → (y.right p ≡ x.right p) ⊎ r.change c (Page p)
    pub entry : y.entry ≡ x.entry
    pub saved : (s : ℕ) → (y.saved s ≡ x.saved s) ⊎ r.saving c s
    pub capability : (d : Name) (n : ℕ) (cap : Cap) → n < SLOTS → value_of u (Slot n) (y.cell (Slot n)) ≡ Ctx d cap → Had r w c n d cap

  module _ (u : World) (was : Confines r w u) (c : Name) (f : Context → Context) (v : World) (changed : ChangesContext u c f v) (live : is_live w c ≡ true)
      (turns : Turns c (context u c) (f (context u c)) u) where
    now : context v c ≡ f (context u c)
    now = changed.changed (was.stays c live)

    read_same : (e : Name) (k : Key) → (context v e).cell k ≡ (context u e).cell k → value_at v e k ≡ value_at u e k
    read_same e k same = value_same u v e k same changed.groups

    here_cell : (k : Key) → IsKey w.size.pages k → ((context v c).cell k ≡ (context u c).cell k) ⊎ r.change c k
    here_cell k key = same_then _ _ _ (ap (λ (x : Context). x.cell k) now) (turns.cell k key)

    cell_on : (e : Name) (k : Key) → IsKey w.size.pages k → ((context v e).cell k ≡ (context u e).cell k) ⊎ ((e ≡ c) × r.change c k)
    cell_on e k key = elim (name_or_not e c) [
      | inl same ↦ elim (here_cell k key) [
        | inl still ↦ inl (subst (λ (n : Name). (context v n).cell k ≡ (context u n).cell k) (sym same) still)
        | inr may ↦ inr (same, may)
      ]
      | inr differ ↦ inl (ap (λ (x : Context). x.cell k) (changed.others e differ))
    ]

    cap_on : (e d : Name) (n : ℕ) (cap : Cap) → is_live u e ≡ true → n < SLOTS → slot_at v e n ≡ Ctx d cap → Had r w e n d cap
    unfolding value_at
    cap_on e d n cap here slot is = elim (name_or_not e c) [
      | inl same ↦
          let at : value_of v (Slot n) ((f (context u c)).cell (Slot n)) ≡ Ctx d cap =
          ap (λ (x : Context). value_of v (Slot n) (x.cell (Slot n))) (sym now) ∙ (ap (λ (m : Name). slot_at v m n) (sym same) ∙ is) in
          subst (λ (m : Name). Had r w m n d cap) (sym same) (turns.capability d n cap slot (sym (by_cell ((f (context u c)).cell (Slot n))) ∙ at))
      | inr differ ↦ was.capabilities e d n cap here slot (sym (read_same e (Slot n) (ap (λ (x : Context). x.cell (Slot n)) (changed.others e differ))) ∙ is)
    ]
      where
        by_cell : (x : Cell Descriptor) → value_of v (Slot n) x ≡ value_of u (Slot n) x
        by_cell (Own value) = refl
        by_cell (Common g) = ap (λ x. x.value (Slot n)) (changed.groups g)

    pub context_on : Confines r w v
    context_on =
        record {
          cells = λ e k here key. elim (cell_on e k key) [
            | inl same ↦ same_then _ _ _ same (was.cells e k here key)
            | inr may ↦ inr (subst (λ (n : Name). r.change n k) (sym may.0) may.1)
          ];
          rights = λ e p here key. elim (name_or_not e c) [
            | inl same ↦ subst (λ (n : Name). (right_at v n p ≡ right_at w n p) ⊎ r.change n (Page p)) (sym same)
                (elim (turns.right p key) [
                  | inl still ↦ same_then _ _ _ (ap (λ (x : Context). x.right p) now ∙ still) (was.rights c p live key)
                  | inr may ↦ inr may
                ])
            | inr differ ↦ same_then _ _ _ (ap (λ (x : Context). x.right p) (changed.others e differ)) (was.rights e p here key)
          ];
          values = λ e k here key. elim (cell_on e k key) [
            | inl same ↦ same_then _ _ _ (read_same e k same) (was.values e k here key)
            | inr may ↦ inr (c, may.1, inl (sym may.0))
          ];
          entries = λ e here. elim (name_or_not e c) [
            | inl same ↦ subst (λ (n : Name). (context v n).entry ≡ (context w n).entry) (sym same) (ap (λ (x : Context). x.entry) now ∙ (turns.entry ∙ was.entries c live))
            | inr differ ↦ ap (λ (x : Context). x.entry) (changed.others e differ) ∙ was.entries e here
          ];
          saved = λ e s here. elim (name_or_not e c) [
            | inl same ↦ subst (λ (n : Name). ((context v n).saved s ≡ (context w n).saved s) ⊎ r.saving n s) (sym same)
                (elim (turns.saved s) [
                  | inl still ↦ same_then _ _ _ (ap (λ (x : Context). x.saved s) now ∙ still) (was.saved c s live)
                  | inr may ↦ inr may
                ])
            | inr differ ↦ same_then _ _ _ (ap (λ (x : Context). x.saved s) (changed.others e differ)) (was.saved e s here)
          ];
          capabilities = λ e d n cap here slot is. cap_on e d n cap (sym (changed.names.live e) ∙ here) slot is;
          live = λ e here named. was.live e (sym (changed.names.live e) ∙ here) named;
          stays = λ e here. changed.names.live e ∙ was.stays e here;
          counted = λ j. subst (λ (next : ℕ → Counters). (w.next j).contexts ≤ (next j).contexts) (sym changed.names.next) (was.counted j);
          size = changed.names.size ∙ was.size;
        }

  -- a change of pages leaves slots
  had : (u : World) → Stage r w u → (c : Name) → is_live u c ≡ true → (d : Name) (n : ℕ) (cap : Cap) → n < SLOTS → value_of u (Slot n) ((context u c).cell (Slot n)) ≡ Ctx d cap → Had r w c n d cap
  unfolding value_at
  had u stage c here d n cap slot is = stage.confines.capabilities c d n cap here slot is

  zeros_turn : (u : World) → Stage r w u → (c : Name) (from to : ℕ) → is_live u c ≡ true → ((p : ℕ) → IsKey w.size.pages (Page p) → r.change c (Page p)) → Turns c (context u c) (with_zeros from to (context u c)) u
  zeros_turn u stage c from to live allowed = record {
    cell = λ k key. elim k as (λ k. IsKey w.size.pages k → ((with_zeros from to (context u c)).cell k ≡ (context u c).cell k) ⊎ r.change c k) [
      | Page p ↦ λ key. inr (allowed p key)
      | Slot n ↦ λ key. inl refl
      | Cred ↦ λ key. inl refl
    ] key;
    right = λ p key. inr (allowed p key);
    entry = refl;
    saved = λ s. inl refl;
    capability = had u stage c live;
  }

  absent_turn : (u : World) → Stage r w u → (c : Name) (from to : ℕ) → is_live u c ≡ true → ((p : ℕ) → IsKey w.size.pages (Page p) → r.change c (Page p)) → Turns c (context u c) (without_pages from to (context u c)) u
  absent_turn u stage c from to live allowed = record {
    cell = λ k key. elim k as (λ k. IsKey w.size.pages k → ((without_pages from to (context u c)).cell k ≡ (context u c).cell k) ⊎ r.change c k) [
      | Page p ↦ λ key. inr (allowed p key)
      | Slot n ↦ λ key. inl refl
      | Cred ↦ λ key. inl refl
    ] key;
    right = λ p key. inr (allowed p key);
    entry = refl;
    saved = λ s. inl refl;
    capability = had u stage c live;
  }

  -- pages of a context are mapped or unmapped
  pub mapped_on : Stage r w w → (c : Name) (from to : ℕ) (present : Bool) → is_live w c ≡ true → ((p : ℕ) → IsKey w.size.pages (Page p) → r.change c (Page p)) → Confines r w (mapped_or_not w c from to present)
  mapped_on start c from to true live allowed = context_on w start.confines c (with_zeros from to) _ (changes.mapped w c from to) live (zeros_turn w start c from to live allowed)
  mapped_on start c from to false live allowed = context_on w start.confines c (without_pages from to) _ (changes.unmapped w c from to) live (absent_turn w start c from to live allowed)

  save_turn : (c : Name) (t : ℕ) (regs : Regs) → Stage r w w → is_live w c ≡ true → r.saving c t → Turns c (context w c) (with_saved t regs (context w c)) w
  save_turn c t regs start live allowed = record {
    cell = λ k key. inl refl;
    right = λ p key. inl refl;
    entry = refl;
    saved = λ s. elim (number_or_not s t) [
      | inl same ↦ inr (subst (r.saving c) (sym same) allowed)
      | inr differ ↦ inl (kept s differ)
    ];
    capability = had w start c live;
  }
    where
      kept : (s : ℕ) → s ≢ t → (with_saved t regs (context w c)).saved s ≡ (context w c).saved s
      kept s differ = grind (arith, nat_tests)

  -- registers are saved
  pub save_on : Stage r w w → (c : Name) (t : ℕ) (regs : Regs) → is_live w c ≡ true → r.saving c t → Stage r w (save w c t regs)
  save_on start c t regs live allowed =
      let saves = saving w c t regs in
      record {
        confines = context_on w start.confines c (with_saved t regs) _ (changes.saved w c t regs) live (save_turn c t regs start live allowed);
        apart = λ a b k first second is. record {
          differ = is.differ;
          no_group = λ g one two. is.no_group g (sym (saves.cells a k) ∙ one) (sym (saves.cells b k) ∙ two);
        };
      }
