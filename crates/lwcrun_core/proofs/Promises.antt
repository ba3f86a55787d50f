-- What users are promised of a call's ending.
use Rattle.std.proofs.Common.{◌≡◌, ◌⊎◌, inl, inr, ℕ, List, Option, Some, Result, Ok, Err, IfSome, refl, sym, subst, ap, ◌∙◌}
use Rattle.lwc_io.specs.Outside.{MayBeContents}
use Rattle.lwcrun_inputs.specs.Ends.{End, Outside, Ended, FetchFailed, WriteFailed}
use Rattle.lwcrun_inputs.specs.Ends as ends
use Rattle.lwcrun_inputs.specs.Plans.{Plan, FileContents, LeadsTo, Reads, outcome}
use Rattle.lwcrun_inputs.specs.Plans as plans

-- the files that the plan reads have these contents
abbrev pub AreKnown : {R W : Type 0} → FileContents → Plan R W → (List ℕ → List ℕ) → Type 0
AreKnown files p bytes = (q : List ℕ) → Reads files p q → files q ≡ Some (bytes q)

-- no fetch of a file that the plan reads counted a fault, and no write did
pub record IsUnhindered {R W : Type 0} (o : Outside) (p : Plan R W) : Type 0 where
  pub files : (q : List ℕ) → Reads o.files.contents p q → FetchFailed o q → ⊥
  pub out : WriteFailed o → ⊥

-- the end of a plan that leads to this work or this refusal
abbrev pub end_by : {R W : Type 0} → Result W R → End R
end_by (Ok work) = ends.Done
end_by (Err refusal) = ends.Refused refusal

-- known contents are no others
pub known_bytes : (contents : Option (List ℕ)) (known bytes : List ℕ) → contents ≡ Some known → MayBeContents contents bytes → known ≡ bytes
known_bytes contents known bytes e may = subst (λ t. IfSome t (λ k. k ≡ bytes)) e may

-- over known files the plan leads to its outcome
pub leads_known : {R W : Type 0} (files : FileContents) (bytes : List ℕ → List ℕ) (p : Plan R W) (end : Result W R) → AreKnown files p bytes → LeadsTo files p end → end ≡ outcome bytes p
leads_known files bytes (plans.Read name limit next) end known leads =
    let is : bytes name ≡ leads.0 = known_bytes (files name) (bytes name) leads.0 (known name (inl refl)) leads.1.contents in
    leads_known files bytes (next leads.0) end (λ q reads. known q (inr (leads.0, leads.1.contents, reads))) leads.2 ∙ ap (λ b. outcome bytes (next b)) (sym is)
leads_known files bytes (plans.Refuse refusal) end known leads = leads
leads_known files bytes (plans.Write work) end known leads = leads

module _ {R W : Type 0} (IsText : W → List ℕ → Type 0) (o : Outside) (p : Plan R W) (bytes : List ℕ → List ℕ) (known : AreKnown o.files.contents p bytes) where
  -- over known files, where nothing failed, the call ends by the plan's outcome, or memory ran out
  pub settled : (e : End R) → Ended IsText o p e → IsUnhindered o p → (e ≡ ends.NoMemory) ⊎ (e ≡ end_by (outcome bytes p))
  unfolding Ended
  settled ends.Done h fine = inr (ap end_by (leads_known o.files.contents bytes p (Ok h.0) known h.1))
  settled ends.NoMemory h fine = inl refl
  settled ends.Usage h fine = absurd h
  settled (ends.Unread asked) h fine = absurd (fine.files asked h.0 h.1)
  settled ends.Unwritten h fine = absurd (fine.out h.3)
  settled (ends.Refused refusal) h fine = inr (ap end_by (leads_known o.files.contents bytes p (Err refusal) known h.0))
