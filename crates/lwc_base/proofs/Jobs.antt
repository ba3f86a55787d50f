-- What each job's contexts and groups name stays of that job, after each change that puts nothing else there.
use Rattle.std.proofs.Common.{◌≡◌, ◌∙◌, refl, sym, ap, subst, ℕ, true, List, rules}
use Rattle.lwc_base.specs.declared.descriptor.Descriptor.{Descriptor}
use Rattle.lwc_base.specs.declared.descriptor.Descriptor.TheVariants.{Ctx}
use Rattle.lwc_base.specs.declared.item.Item.{Item}
use Rattle.lwc_base.specs.Cells.{put_slot, put_uid, slot_at}
use Rattle.lwc_base.specs.Jobs.{IsOwnName, IsOwnNameAt, NamesKeepToJobs, own_names}
use Rattle.lwc_base.specs.Keys.{ValueOf, nothing}
use Rattle.lwc_base.specs.Life.{Reaches, is_among, is_of, Root, Link}
use Rattle.lwc_base.specs.Mapping.{map_pages, unmap_pages}
use Rattle.lwc_base.specs.Overlay.{overlay}
use Rattle.lwc_base.specs.Saved.{save, with_saved}
use Rattle.lwc_base.specs.Sharing.{clone_context, share}
use Rattle.lwc_base.specs.Store.{Piece, after_store}
use Rattle.lwc_base.specs.World.{World, add_context, is_live, new_context, new_value}
use Rattle.lwc_base.proofs.Holders.{Lets, in_clone, keeps-add_context, keeps-after_store, keeps-change_context, keeps-on_pages, keeps-put_at, keeps-share, keeps-with_overlay, may_have-free, value_at-keeps}
use Rattle.lwc_base.proofs.Sharing.{shares-share}
use Rattle.lwc_base.proofs.Slots.{linked_slot}
use Rattle.lwc_types.specs.declared.key.Key.{Key}
use Rattle.lwc_types.specs.declared.key.Key.TheVariants.{Slot, Cred}
use Rattle.lwc_types.specs.declared.name.Name.{Name}
use Rattle.lwc_types.specs.declared.regs.Regs.{Regs}
use Rattle.lwc_types.proofs.Orders.{same_name}
use Rattle.std.proofs.lemmas.Bool.{false≢true}

nothing_own : (job : ℕ) (k : Key) → IsOwnNameAt job k (nothing k)
nothing_own job k = search rules

new_own : (job uid : ℕ) (k : Key) → IsOwnNameAt job k (new_value uid k)
new_own job uid k = search rules

-- a group of a job has what a context of that job may have
into : (i : ℕ) (k : Key) (g : Name) (value : ValueOf k) → g.job ≡ i → IsOwnNameAt g.job k value → IsOwnNameAt i k value
into i k g value e is = subst (λ j. IsOwnNameAt j k value) e is

same_job : (i j : ℕ) → i ≡ j → Lets own_names i j
same_job i j e = record { group = λ k g is. is ∙ e; value = λ k value is. subst (λ q. IsOwnNameAt q k value) e is }

pub jobs-add_new_context : (w : World) (job uid : ℕ) (entry : Regs) → NamesKeepToJobs w → NamesKeepToJobs (add_context w job (new_context uid entry))
jobs-add_new_context w job uid entry keeps = keeps-add_context own_names w job (new_context uid entry) (new_own job uid) keeps

pub jobs-put_slot : (w : World) (c : Name) (n : ℕ) (value : Descriptor) → IsOwnName c.job value → NamesKeepToJobs w → NamesKeepToJobs (put_slot w c n value)
jobs-put_slot w c n value is keeps = keeps-put_at own_names w c (Slot n) value is (λ g e. subst (λ j. IsOwnName j value) (sym e) is) keeps

pub jobs-put_uid : (w : World) (c : Name) (uid : ℕ) → NamesKeepToJobs w → NamesKeepToJobs (put_uid w c uid)
jobs-put_uid w c uid keeps = keeps-put_at own_names w c Cred uid tt (λ g _. tt) keeps

pub jobs-map_pages : (w : World) (c : Name) (from to : ℕ) → NamesKeepToJobs w → NamesKeepToJobs (map_pages w c from to)
unfolding map_pages
jobs-map_pages w c from to keeps = keeps-on_pages own_names w c from to _ (λ p _. tt) keeps

pub jobs-unmap_pages : (w : World) (c : Name) (from to : ℕ) → NamesKeepToJobs w → NamesKeepToJobs (unmap_pages w c from to)
unfolding unmap_pages
jobs-unmap_pages w c from to keeps = keeps-on_pages own_names w c from to _ (λ p _. tt) keeps

pub jobs-after_store : (w : World) (c : Name) (job : ℕ) (piece : Piece) → NamesKeepToJobs w → NamesKeepToJobs (after_store w c job piece)
jobs-after_store w c job piece keeps = keeps-after_store own_names w c job piece (may_have-free own_names c.job (λ i p value. tt) _) keeps

pub jobs-share : (w : World) (c : Name) (job : ℕ) (items : List Item) → c.job ≡ job → is_live w c ≡ true → NamesKeepToJobs w →
    NamesKeepToJobs (share w c job items)
jobs-share w c job items e live keeps = keeps-share own_names w c job items live nothing_own (same_job c.job job e) keeps (λ k _. sym e)

pub jobs-clone : (w : World) (c : Name) (items : List Item) (entry : Regs) → is_live w c ≡ true → NamesKeepToJobs w →
    NamesKeepToJobs (clone_context w c c.job items entry)
unfolding clone_context
jobs-clone w c items entry live keeps =
    let s : World = share w c c.job items in
    let shared : NamesKeepToJobs s = jobs-share w c c.job items refl live keeps in
    keeps-add_context own_names s c.job _
    (in_clone own_names s c c.job items ((shares-share w c c.job items).live c ∙ live) nothing_own (same_job c.job c.job refl) shared entry
    (λ k g value e is. into c.job k g value e is)) shared

pub jobs-save : (w : World) (c : Name) (t : ℕ) (regs : Regs) → NamesKeepToJobs w → NamesKeepToJobs (save w c t regs)
unfolding save
jobs-save w c t regs keeps = keeps-change_context own_names w c (with_saved t regs) (λ live. keeps.contexts c live) keeps

pub jobs-overlay : (w : World) (c d : Name) (items : List Item) → is_live w d ≡ true → d.job ≡ c.job → NamesKeepToJobs w →
    NamesKeepToJobs (overlay w c d c.job items)
unfolding overlay
jobs-overlay w c d items live e keeps =
    keeps-with_overlay own_names (share w d c.job items) c d items ((shares-share w d c.job items).live d ∙ live) nothing_own (same_job d.job c.job e)
    (λ k g value same is. into d.job k g value same is) (jobs-share w d c.job items e live keeps)

-- what a slot of a live context reads is of its job
pub jobs-slot_at : (w : World) (c : Name) (n : ℕ) → is_live w c ≡ true → NamesKeepToJobs w → IsOwnName c.job (slot_at w c n)
jobs-slot_at w c n live keeps = value_at-keeps own_names w c live nothing_own (λ k g value e is. into c.job k g value e is) keeps (Slot n)

-- a descriptor of a context that is of no other job
of_own : (job : ℕ) (c : Name) (value : Descriptor) → IsOwnName job value → is_of c value ≡ true → c.job ≡ job
of_own job c (Ctx name cap) own is = ap (λ x. x.job) (sym (same_name name c is)) ∙ own
of_own job c _ own is = absurd (false≢true is)

-- a way from the roots stays in the job that it began in
pub root_of_job : (w : World) (roots : List Name) (c : Name) → NamesKeepToJobs w → Reaches w roots c →
    (root : Name) × (is_among roots root ≡ true) × (root.job ≡ c.job)
root_of_job w roots c keeps (Root _ among) = (c, among, refl)
root_of_job w roots c keeps (Link d _ before live link) =
    let root = root_of_job w roots d keeps before in
    let named = linked_slot w d c link in
    (root.0, root.1, root.2 ∙ sym (of_own d.job c (slot_at w d named.0) (jobs-slot_at w d named.0 live keeps) named.2))
