-- The worked message, computed.
use Rattle.std.proofs.Common.{◌≡◌, ◌⊎◌, inl, inr, ℕ, zero, suc, ◌<◌, [], ◌∷◌, ◌++◌, Some, refl, ap, ⊎_elim, arith, slice_get, codes}
use Rattle.address_rules.specs.Routes.{route_of}
use Rattle.envelope_records.specs.Envelope.{read_envelope}
use Rattle.queue_inject.specs.Texts.{recipients_of}
use Rattle.send_known.specs.declared.channel.Channel.TheVariants.{Local, Remote}
use Rattle.queue_law.specs.Entered.{named_by}
use Rattle.queue_law.specs.Ledgers.{Named, unrouted}
use Rattle.queue_law.specs.Routes.{info_of, lane_text, sender_of, spot_after}
use Rattle.queue_law.specs.Marks.{IsDone, IsMarked, MayBeMarked}
use Rattle.queue_law.specs.Worked.{controls_x, message_a, ledger_a, ledger_noted, with_mark, WorkedMessage}
use Rattle.queue_law.proofs.Places.{some_apart}

recipients : recipients_of message_a ≡ codes "a@x" ∷ codes "b@y" ∷ []
unfolding recipients_of read_envelope
recipients = refl

info : info_of message_a ≡ codes "Fs@z" ++ 0 ∷ []
unfolding sender_of read_envelope
info = refl

local : lane_text controls_x message_a Local ≡ codes "Ta@x" ++ 0 ∷ []
unfolding recipients_of read_envelope route_of
local = refl

remote : lane_text controls_x message_a Remote ≡ codes "Tb@y" ++ 0 ∷ []
unfolding recipients_of read_envelope route_of
remote = refl

first : spot_after controls_x [] (codes "a@x") ≡ record { channel = Local; place = 0 }
unfolding route_of
first = refl

second : spot_after controls_x (codes "a@x" ∷ []) (codes "b@y") ≡ record { channel = Remote; place = 0 }
unfolding route_of
second = refl

done : (k : ℕ) → k < 5 → (slice_get (codes "Da@x" ++ 0 ∷ []) k ≡ slice_get (codes "Ta@x" ++ 0 ∷ []) k) ⊎ (IsDone (with_mark ledger_a) Local k × (slice_get (codes "Da@x" ++ 0 ∷ []) k ≡ Some 68))
done zero lt = inr ((controls_x, inl refl), refl)
done (suc k) lt = inl refl

too_early : IsMarked (codes "Ta@x" ++ 0 ∷ []) ledger_a Local (codes "Da@x" ++ 0 ∷ []) → ⊥
too_early m = ⊎_elim (λ same. some_apart same) (λ w. absurd w.0.1) (m.each 0 (omega arith))

renamed : MayBeMarked ledger_noted (named_by unrouted Local 0) → ⊥
renamed may = ⊎_elim
    (λ delivered. absurd delivered)
    (λ noted. ⊎_elim
    (λ (same : named_by unrouted Local 0 ≡ named_by controls_x Local 0). let times : 0 ≡ 604800 = ap (λ (it : Named). it.by.queue_lifetime) same in omega (arith, times))
    (λ (none : ⊥). none)
    noted)
    may

pub worked : WorkedMessage
worked = record {
  recipients = recipients;
  info = info;
  local = local;
  remote = remote;
  first = first;
  second = second;
  unmarked = record { long = refl; each = λ k lt. inl refl };
  done = record { long = refl; each = done };
  too_early = too_early;
  delivered = inl (inl refl);
  noted = inr (inl refl);
  renamed = renamed;
}
