-- What a request's job reads and writes is the same through channels that look alike to it.
use Rattle.std.proofs.Common.{◌≡◌, ℕ, ◌+◌, refl, sym, ap, subst, ◌∙◌, Some, List, [], ◌++◌, length, drop, arith}
use Rattle.std.proofs.lemmas.Option.{unwrap_or-slice_get}
use Rattle.std.specs.Prelude.{nat_lt, slice_get, unwrap_or}
use Rattle.std.specs.Option.{option_map}
use Rattle.lwc_base.specs.Channels.{Channels, bytes_in, contents}
use Rattle.lwc_base.specs.declared.descriptor.Descriptor.{Descriptor}
use Rattle.lwc_base.specs.declared.descriptor.Descriptor.TheVariants.{Empty, Console, File, Request, Reply, Ctx}
use Rattle.lwc_types.specs.declared.file_image.FileImage.{FileImage}
use Rattle.lwc_types.specs.declared.limits.TheConstants.{MOST_REPLY_BYTES}
use Rattle.lwc_syscall.specs.Plain.{left, passes_limit, written}
use Rattle.world_views.proofs.JobPlainly.{slice_get-set}
use Rattle.world_views.specs.ByJob.{IsSlotOf}
use Rattle.world_views.specs.Views.{ChannelView, channel_view}

module _ (r : ℕ) (io other : Channels) (same : channel_view r io ≡ channel_view r other) where
  pub files-alike : io.files ≡ other.files
  unfolding channel_view
  files-alike = ap (λ (V : ChannelView). V.files) same

  request-alike : bytes_in io.requests r ≡ bytes_in other.requests r
  unfolding channel_view
  request-alike = sym (unwrap_or-slice_get io.requests r []) ∙ ap (λ (V : ChannelView). unwrap_or V.request []) same ∙ unwrap_or-slice_get other.requests r []

  reply-alike : bytes_in io.replies r ≡ bytes_in other.replies r
  unfolding channel_view
  reply-alike = sym (unwrap_or-slice_get io.replies r []) ∙ ap (λ (V : ChannelView). unwrap_or V.reply []) same ∙ unwrap_or-slice_get other.replies r []

  its_number : (q : ℕ) → q + 1 ≡ r + 1 → r ≡ q
  its_number q is = omega (arith, is)

  -- what is left to read through a descriptor of the job
  pub left-alike : (value : Descriptor) → IsSlotOf (r + 1) value → left io value ≡ left other value
  left-alike Empty fits = refl
  left-alike Console fits = absurd fits
  left-alike (File file at) fits = ap (λ (fs : List FileImage). Some (drop at (bytes_in (contents fs) file))) files-alike
  left-alike (Request q at) fits = subst (λ p. left io (Request p at) ≡ left other (Request p at)) (its_number q fits) (ap (λ bytes. Some (drop at bytes)) request-alike)
  left-alike (Reply q) fits = refl
  left-alike (Ctx name cap) fits = refl

  -- whether a write would pass the limit
  pub passes-alike : (value : Descriptor) (count : ℕ) → IsSlotOf (r + 1) value → passes_limit io value count ≡ passes_limit other value count
  passes-alike Empty count fits = refl
  passes-alike Console count fits = absurd fits
  passes-alike (File file at) count fits = refl
  passes-alike (Request q at) count fits = refl
  passes-alike (Reply q) count fits =
      subst (λ p. passes_limit io (Reply p) count ≡ passes_limit other (Reply p) count) (its_number q fits) (ap (λ bytes. nat_lt MOST_REPLY_BYTES (length bytes + count)) reply-alike)
  passes-alike (Ctx name cap) count fits = refl

  -- what is written
  pub written-alike : (value : Descriptor) (bytes : List ℕ) → IsSlotOf (r + 1) value → channel_view r (written io value bytes) ≡ channel_view r (written other value bytes)
  unfolding channel_view
  written-alike Empty bytes fits = same
  written-alike Console bytes fits = absurd fits
  written-alike (File file at) bytes fits = same
  written-alike (Request q at) bytes fits = same
  written-alike (Reply q) bytes fits =
      subst (λ p. channel_view r (written io (Reply p) bytes) ≡ channel_view r (written other (Reply p) bytes)) (its_number q fits)
      (λ i. record { files = (same i).files; request = (same i).request; reply = replies i })
    where
      replies : slice_get (written io (Reply r) bytes).replies r ≡ slice_get (written other (Reply r) bytes).replies r
      replies =
          slice_get-set io.replies r (bytes_in io.replies r ++ bytes)
          ∙ (λ i. option_map (λ old. reply-alike i ++ bytes) (same i).reply)
          ∙ sym (slice_get-set other.replies r (bytes_in other.replies r ++ bytes))
  written-alike (Ctx name cap) bytes fits = same
