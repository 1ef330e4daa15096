-- Bytes that begin with no whole request are no requests.
use Rattle.std.proofs.Common.{◌≡◌, ◌≢◌, ℕ, List, [], ◌∷◌, ◌++◌, false, None, refl, sym, ap, ◌∙◌, append_assoc}
use Rattle.std.specs.Prelude.{flat_map}
use Rattle.std.proofs.lemmas.List.Elements.{All-nil}
use Rattle.mail_bytes.specs.Texts.{HasNoNul}
use Rattle.program_law.specs.Post.Posts.{AreRequests, IsPart}
use Rattle.program_law.specs.Post.Posts.IsPart.{Part}
use Rattle.program_law.proofs.Post.Texts.{first_is}
use Rattle.spawn_protocol.proofs.Cuts.{cut_is}
use Rattle.spawn_protocol.specs.Cut.{cut}
use Rattle.spawn_protocol.specs.Cut.Cut.{More}
use Rattle.spawn_protocol.specs.Request.{HasFields, Start, bytes_to, field_text, request_text}
use Rattle.spawn_protocol.specs.Request.Start.{InMess, InRecipient, InSender, NoByte}
use Rattle.spawn_protocol.specs.declared.request.Request.{Request}
use Rattle.settle_law.proofs.Splits.{AllPlain}

no_nul : HasNoNul []
no_nul = All-nil (λ b. b ≢ 0)

-- the start of a request is a part of one
starts_part : (start : Start) → HasFields start → IsPart (bytes_to start)
starts_part NoByte h =
    let r : Request = record { slot = 0; mess = []; sender = []; recipient = [] } in
    Part r (request_text r) (record { mess = no_nul; sender = no_nul; recipient = no_nul }) (λ e. cc) refl
starts_part (InMess slot begun) h =
    let r : Request = record { slot = slot; mess = begun; sender = []; recipient = [] } in
    Part r (0 ∷ 0 ∷ 0 ∷ []) (record { mess = h.plain; sender = no_nul; recipient = no_nul }) (λ e. cc)
    (ap (λ (t : List ℕ). slot ∷ t) (sym (append_assoc begun (0 ∷ []) (0 ∷ 0 ∷ []))))
starts_part (InSender slot mess begun) h =
    let r : Request = record { slot = slot; mess = mess; sender = begun; recipient = [] } in
    Part r (0 ∷ 0 ∷ []) (record { mess = h.0.plain; sender = h.1.plain; recipient = no_nul }) (λ e. cc)
    (ap (λ (t : List ℕ). slot ∷ t) (append_assoc (field_text mess) begun (0 ∷ 0 ∷ []) ∙ ap (λ (t : List ℕ). field_text mess ++ t) (sym (append_assoc begun (0 ∷ []) (0 ∷ [])))))
starts_part (InRecipient slot mess sender begun) h =
    let r : Request = record { slot = slot; mess = mess; sender = sender; recipient = begun } in
    Part r (0 ∷ []) (record { mess = h.0.plain; sender = h.1.plain; recipient = h.2.plain }) (λ e. cc)
    (ap (λ (t : List ℕ). slot ∷ t) (append_assoc (field_text mess) (field_text sender ++ begun) (0 ∷ []) ∙ ap (λ (t : List ℕ). field_text mess ++ t) (append_assoc (field_text sender) begun (0 ∷ []))))

pub none_waits : (bytes : List ℕ) (waits : List Request) → cut bytes ≡ More → bytes ≡ flat_map request_text waits → AllPlain waits → waits ≡ []
none_waits bytes [] is text plain = refl
none_waits bytes (r ∷ more) is text plain =
    let start = (cut_is bytes More).0 is in
    let are : AreRequests false (request_text r ++ flat_map request_text more) [] =
    record { tail = bytes_to start.0; text = sym text ∙ start.1.text; part = starts_part start.0 start.1.begun; whole = λ e. absurd (cc) } in
    let first = first_is (λ slot. None) false r (flat_map request_text more) [] plain.0 tt are in
    let none : [] ≡ r ∷ first.more = first.is in
    absurd (cc)
