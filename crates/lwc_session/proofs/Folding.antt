-- Sessions of requests one after another.
use Rattle.std.proofs.Common.{◌≡◌, ℕ, List, [], ◌∷◌, ◌++◌, Option, None, refl, sym, ap, ◌∙◌, append_assoc}
use Rattle.std.proofs.lemmas.List.{append-nil}
use Rattle.std.specs.Prelude.{is_some}
use Rattle.guest_image.specs.declared.image.Image.{Image}
use Rattle.guest_image.specs.declared.image.PageImage.{PageImage}
use Rattle.kernel_core.specs.Start.{inputs_of}
use Rattle.kernel_core.specs.declared.settings.Settings.{Settings}
use Rattle.lwc_session.specs.Served.{Served, served}
use Rattle.lwc_session.specs.Sessions.{Reply, Session, after_request, after_requests, begun, image_with, with_served}

-- what comes of a request from an image
abbrev from_image : Settings → Image → List ℕ → Served
from_image settings image request = served (inputs_of image (request ∷ []) settings)

-- a session can be stopped and gone on with
pub goes_on : (settings : Settings) (s : Session) (first rest : List (List ℕ)) → after_requests settings s (first ++ rest) ≡ after_requests settings (after_requests settings s first) rest
goes_on settings s [] rest = refl
goes_on settings s (r ∷ rs) rest = goes_on settings (after_request settings s r) rs rest

-- and so the last request is served from what those before it leave
pub folds : (settings : Settings) (s : Session) (requests : List (List ℕ)) (request : List ℕ) →
    after_requests settings s (requests ++ request ∷ []) ≡ with_served (after_requests settings s requests) (from_image settings (after_requests settings s requests).image request)
unfolding after_request
folds settings s requests request = goes_on settings s requests (request ∷ [])

-- the image depends on the image alone
pub image_from : (settings : Settings) (s t : Session) (requests : List (List ℕ)) → s.image ≡ t.image → (after_requests settings s requests).image ≡ (after_requests settings t requests).image
unfolding after_request
image_from settings s t [] same = same
image_from settings s t (r ∷ rs) same =
    image_from settings (after_request settings s r) (after_request settings t r) rs
    (ap (λ (image : Image). image_with image (from_image settings image r).pages) same)

-- the replies to requests come behind those that there are, and depend on the image alone
pub replies_from : (settings : Settings) (s : Session) (requests : List (List ℕ)) →
    (after_requests settings s requests).replies ≡ s.replies ++ (after_requests settings (begun s.image) requests).replies
unfolding after_request
replies_from settings s [] = sym (append-nil s.replies)
replies_from settings s (r ∷ rs) =
    let it = from_image settings s.image r in
    let one : List Reply = record { finished = it.reply; kept = is_some it.pages } ∷ [] in
    let rest = (after_requests settings (begun (image_with s.image it.pages)) rs).replies in
    replies_from settings (after_request settings s r) rs
    ∙ append_assoc s.replies one rest
    ∙ ap (λ (l : List Reply). s.replies ++ l) (sym (replies_from settings (after_request settings (begun s.image) r) rs))

-- a request that is not kept leaves the image
pub image_stays : (settings : Settings) (s : Session) (request : List ℕ) → (from_image settings s.image request).pages ≡ None → (after_request settings s request).image ≡ s.image
unfolding after_request
image_stays settings s request dropped = ap (image_with s.image) dropped

-- and so the image at the end is that of the session without it
pub never_was : (settings : Settings) (s : Session) (request : List ℕ) (rest : List (List ℕ)) → (from_image settings s.image request).pages ≡ None →
    (after_requests settings s (request ∷ rest)).image ≡ (after_requests settings s rest).image
never_was settings s request rest dropped = image_from settings (after_request settings s request) s rest (image_stays settings s request dropped)

-- and its reply is all that is more
pub one_reply_more : (settings : Settings) (s : Session) (request : List ℕ) (rest : List (List ℕ)) → (from_image settings s.image request).pages ≡ None →
    (after_requests settings s (request ∷ rest)).replies
    ≡ (s.replies ++ record { finished = (from_image settings s.image request).reply; kept = is_some (from_image settings s.image request).pages } ∷ []) ++ (after_requests settings (begun s.image) rest).replies
unfolding after_request
one_reply_more settings s request rest dropped =
    let next = after_request settings s request in
    replies_from settings next rest
    ∙ ap (λ (image : Image). next.replies ++ (after_requests settings (begun image) rest).replies) (image_stays settings s request dropped)
