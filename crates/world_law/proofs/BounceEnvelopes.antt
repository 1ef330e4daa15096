-- What the envelope of a bounce is read as: its sender, and its recipient alone.
use Rattle.std.proofs.Common.{◌≡◌, ℕ, List, [], ◌∷◌, length, take, Bool, true, false, Option, Some, None, refl, sym, ap, ◌∙◌, subst, if◌then◌else◌, bytes_eq, codes}
use Rattle.std.specs.Prelude.{◌-◌, ◌==◌, nat_eq}
use Rattle.std.specs.List.{ends_with}
use Rattle.std.proofs.lemmas.List.Elements.{All-nil, All-cons, All-append, All-take, All-from_recursion}
use Rattle.address_rules.specs.declared.controls.Controls.{Controls}
use Rattle.address_rules.specs.Nuls.{HaveNoNul}
use Rattle.mail_bytes.specs.Texts.{HasNoNul}
use Rattle.bounce_record.specs.declared.bounces.Bounce.{Bounce}
use Rattle.bounce_record.specs.Bounces.{bounce_of, return_address, user_at}
use Rattle.envelope_records.specs.Envelope.{Reading, read_envelope}
use Rattle.envelope_records.specs.Envelope.Reading.{Whole, Broken}
use Rattle.envelope_records.specs.Envelope.Reading.{Open as OpenReading}
use Rattle.envelope_records.proofs.Envelopes.{sound_as}
use Rattle.queue_inject.specs.declared.injection.Arguments.{Arguments}
use Rattle.queue_inject.specs.Texts.{entered, limit}
use Rattle.queue_law.specs.Books.{IsValid}
use Rattle.queue_law.specs.Routes.{sender_of, sender_read}
use Rattle.world_law.specs.Bounces.{IsAddressed, IsBounceOf}
use Rattle.world_law.proofs.Envelopes.{addressed}

abbrev IsPlain : ℕ → Type 0
IsPlain b = b ≡ 0 → ⊥

-- No address of a bounce has a NUL

plain_sender : (args : Arguments) (reading : Reading) → read_envelope (take limit args.envelope) ≡ reading → HasNoNul (sender_read reading)
plain_sender args (Whole sender recipients) read = (sound_as (take limit args.envelope) (Whole sender recipients) read).whole.from.plain
plain_sender args (OpenReading stage) read = All-nil IsPlain
plain_sender args (Broken before fault) read = All-nil IsPlain

sender_plain : (args : Arguments) → HasNoNul (sender_of args)
unfolding sender_of
sender_plain args = plain_sender args (read_envelope (take limit args.envelope)) refl

cut_plain : (t : Bool) (n : ℕ) (sender : List ℕ) → HasNoNul sender → HasNoNul (if t then take n sender else sender)
cut_plain true n sender h = All-take IsPlain n sender h
cut_plain false n sender h = h

back_plain : (sender : List ℕ) → HasNoNul sender → HasNoNul (return_address sender)
back_plain sender h = cut_plain (ends_with nat_eq sender (codes "-@[]")) (length sender - 4) sender h

not_nul : (b : ℕ) → (b == 0) ≡ false → IsPlain b
not_nul b e zero = let same : (0 == 0) ≡ false = ap (λ (c : ℕ). c == 0) (sym zero) ∙ e in absurd (cc)

user_plain : (user host : List ℕ) → HasNoNul user → HasNoNul host → HasNoNul (user_at user host)
user_plain user host h k = All-append IsPlain user (64 ∷ host) h (All-cons IsPlain 64 host (not_nul 64 refl) k)

nobody : HasNoNul (codes "#@[]")
nobody = All-from_recursion IsPlain (35 ∷ 64 ∷ 91 ∷ 93 ∷ []) (not_nul 35 refl, (not_nul 64 refl, (not_nul 91 refl, (not_nul 93 refl, tt))))

record ArePlain (b : Bounce) : Type 0 where
  sender : HasNoNul b.sender
  recipient : HasNoNul b.recipient

module _ (controls : Controls) (no_nul : HaveNoNul controls) (notes message : List ℕ) (moment : ℕ) where
  abbrev of : List ℕ → Option Bounce
  of sender = bounce_of controls.bounce_from controls.bounce_host controls.double_bounce_to controls.double_bounce_host sender notes message moment

  single_plain : (t : Bool) (b one : Bounce) → ArePlain one → (if t then None else Some one) ≡ Some b → ArePlain b
  single_plain true b one plain e = absurd (cc)
  single_plain false b one plain e = let same : one ≡ b = cc in subst ArePlain same plain

  bounce_plain : (sender : List ℕ) (b : Bounce) → HasNoNul sender → of sender ≡ Some b → ArePlain b
  bounce_plain [] b h e =
      let to = user_plain controls.double_bounce_to controls.double_bounce_host no_nul.double_bounce_to no_nul.double_bounce_host in
      single_plain false b _ (record { sender = nobody; recipient = to }) e
  bounce_plain (c ∷ sender) b h e =
      single_plain (bytes_eq (c ∷ sender) (codes "#@[]")) b _ (record { sender = All-nil IsPlain; recipient = back_plain (c ∷ sender) h }) e

pub bounce_addressed : (controls : Controls) → HaveNoNul controls → (message : Arguments) (notes : List ℕ) (args : Arguments) → IsValid args → (it : IsBounceOf controls message notes args) → IsAddressed it.bounce args
bounce_addressed controls no_nul message notes args valid it =
    let plain = bounce_plain controls no_nul notes _ it.moment (sender_of message) it.bounce (sender_plain message) it.made in
    let w = addressed args it.bounce.sender (it.bounce.recipient ∷ []) plain.sender (plain.recipient, tt) it.envelope_is valid in
    record { from = w.0; to = w.1 }

-- nothing comes of a double bounce
pub not_double : (controls : Controls) (message : Arguments) (notes : List ℕ) (args : Arguments) → IsBounceOf controls message notes args → sender_of message ≡ codes "#@[]" → ⊥
not_double controls message notes args it same =
    let none : ◌≡◌ {A = Option Bounce} None (Some it.bounce) =
    sym (ap (λ (sender : List ℕ). bounce_of controls.bounce_from controls.bounce_host controls.double_bounce_to controls.double_bounce_host sender notes (entered message) it.moment) same) ∙ it.made in
    absurd (cc)
