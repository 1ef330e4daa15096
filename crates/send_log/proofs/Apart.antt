-- Lines with the same text are of one kind, with the same numbers and words.
use Rattle.std.proofs.Common.{◌≡◌, ℕ, ◌+◌, ◌*◌, ◌≤◌, List, [], ◌∷◌, ◌++◌, get_or, refl, sym, ap, ◌∙◌, arith, codes}
use Rattle.std.specs.Prelude.{◌↔◌}
use Rattle.std.proofs.lemmas.Bool.{eqb-false}
use Rattle.std.proofs.lemmas.List.{append_cancel_left}
use Rattle.mail_bytes.specs.Decimal.{digits, IsDigit}
use Rattle.send_log.specs.declared.lines.Load.{Load}
use Rattle.send_log.specs.declared.lines.Outcome.{Outcome}
use Rattle.send_log.specs.declared.lines.Outcome.TheVariants.{Success, Failure, Deferral}
use Rattle.send_log.specs.declared.lines.Target.{Target}
use Rattle.send_log.specs.declared.lines.Target.TheVariants.{Local, Remote}
use Rattle.send_log.specs.declared.lines.Line.{Line}
use Rattle.send_log.specs.declared.lines.Line.TheVariants as it
use Rattle.send_log.specs.Lines.{IsSame, IsSameTarget, address_of, bounced, channel_of, delivered, line, message_info, shown, starting, status, text_of, word_of}
use Rattle.send_log.proofs.Cuts.{number_at, shown_at_end, shown_in_brackets}

-- bytes that are no digits
newline : ¬ (IsDigit 10)
newline h = let low = h.0 in absurd (omega arith)

space : ¬ (IsDigit 32)
space h = let low = h.0 in absurd (omega arith)

slash : ¬ (IsDigit 47)
slash h = let low = h.0 in absurd (omega arith)

colon : ¬ (IsDigit 58)
colon h = let high = h.1 in absurd (omega arith)

numbered : (words : List ℕ) (n m : ℕ) → line (words ∷ digits n ∷ []) ≡ line (words ∷ digits m ∷ []) → n ≡ m
numbered words n m e = (number_at 10 newline n m [] [] (append_cancel_left words (digits n ++ 10 ∷ []) (digits m ++ 10 ∷ []) e)).0

after : (words x y : List ℕ) → words ++ x ≡ words ++ y → x ≡ y
after words x y e = append_cancel_left words x y e

same_info : (n m b c : ℕ) (s t : List ℕ) (p q u v : ℕ) → message_info n b s p u ≡ message_info m c t q v
    → (n ≡ m) × (b ≡ c) × (shown s ≡ shown t) × (p ≡ q) × (u ≡ v)
same_info n m b c s t p q u v e =
    let number = number_at 58 colon n m _ _ (after (codes "info msg ") _ _ e) in
    let bytes = number_at 32 space b c _ _ (after (codes " bytes ") _ _ number.1) in
    let sender = shown_in_brackets s t _ _ (after (codes "from <") _ _ bytes.1) in
    let pid = number_at 32 space p q _ _ (after (codes "qp ") _ _ sender.1) in
    let uid = number_at 10 newline u v [] [] (after (codes "uid ") _ _ pid.1) in
    (number.0, bytes.0, sender.0, pid.0, uid.0)

abbrev first_byte : List ℕ → ℕ
first_byte text = get_or text 0 0

-- by the word of its channel
targets : (a b : Target) (r s : List ℕ) → channel_of a ++ 32 ∷ r ≡ channel_of b ++ 32 ∷ s → (channel_of a ≡ channel_of b) × (r ≡ s)
targets (Local x) (Local y) r s e = (refl, after (codes "local ") r s e)
targets (Local x) (Remote y) r s e = absurd (eqb-false 108 114 refl (ap first_byte e))
targets (Remote x) (Local y) r s e = absurd (eqb-false 114 108 refl (ap first_byte e))
targets (Remote x) (Remote y) r s e = (refl, after (codes "remote ") r s e)

same_starting : (d f n m : ℕ) (a b : Target) → starting d n (channel_of a) (address_of a) ≡ starting f m (channel_of b) (address_of b)
    → (d ≡ f) × (n ≡ m) × IsSameTarget a b
same_starting d f n m a b e =
    let delivery = number_at 58 colon d f _ _ (after (codes "starting delivery ") _ _ e) in
    let number = number_at 32 space n m _ _ (after (codes " msg ") _ _ delivery.1) in
    let channel = targets a b _ _ (after (codes "to ") _ _ number.1) in
    (delivery.0, number.0, (channel.0, shown_at_end (address_of a) (address_of b) channel.1))

same_load : (a b : Load) → a.busy ≡ b.busy → a.limit ≡ b.limit → a ≡ b
same_load a b e f =
    ap (λ n. let load : Load = record { busy = n; limit = a.limit } in load) e
    ∙ ap (λ n. let load : Load = record { busy = b.busy; limit = n } in load) f

same_status : (a b c d : Load) → status a.busy a.limit b.busy b.limit ≡ status c.busy c.limit d.busy d.limit → (a ≡ c) × (b ≡ d)
same_status a b c d e =
    let local = number_at 47 slash a.busy c.busy _ _ (after (codes "status: local ") _ _ e) in
    let local_limit = number_at 32 space a.limit c.limit _ _ local.1 in
    let remote = number_at 47 slash b.busy d.busy _ _ (after (codes "remote ") _ _ local_limit.1) in
    let remote_limit = number_at 10 newline b.limit d.limit [] [] remote.1 in
    (same_load a c local.0 local_limit.0, same_load b d remote.0 remote_limit.0)

outcomes : (o p : Outcome) (r s : List ℕ) → word_of o ++ 58 ∷ 32 ∷ r ≡ word_of p ++ 58 ∷ 32 ∷ s → (o ≡ p) × (r ≡ s)
outcomes Success Success r s e = (refl, after (codes "success: ") r s e)
outcomes Failure Failure r s e = (refl, after (codes "failure: ") r s e)
outcomes Deferral Deferral r s e = (refl, after (codes "deferral: ") r s e)
outcomes Success Failure r s e = absurd (eqb-false 115 102 refl (ap first_byte e))
outcomes Success Deferral r s e = absurd (eqb-false 115 100 refl (ap first_byte e))
outcomes Failure Success r s e = absurd (eqb-false 102 115 refl (ap first_byte e))
outcomes Failure Deferral r s e = absurd (eqb-false 102 100 refl (ap first_byte e))
outcomes Deferral Success r s e = absurd (eqb-false 100 115 refl (ap first_byte e))
outcomes Deferral Failure r s e = absurd (eqb-false 100 102 refl (ap first_byte e))

same_delivered : (d f : ℕ) (o p : Outcome) (r s : List ℕ) → delivered d o r ≡ delivered f p s → (d ≡ f) × (o ≡ p) × (shown r ≡ shown s)
same_delivered d f o p r s e =
    let delivery = number_at 58 colon d f _ _ (after (codes "delivery ") _ _ e) in
    let outcome = outcomes o p _ _ (after (codes " ") _ _ delivery.1) in
    (delivery.0, outcome.0, shown_at_end r s outcome.1)

same_bounced : (n m p q : ℕ) → bounced n p ≡ bounced m q → (n ≡ m) × (p ≡ q)
same_bounced n m p q e =
    let number = number_at 32 space n m _ _ (after (codes "bounce msg ") _ _ e) in
    (number.0, (number_at 10 newline p q [] [] (after (codes "qp ") _ _ number.1)).0)

-- three bytes that tell the kind of a line
abbrev kind_in : List ℕ → ℕ
kind_in text = get_or text 0 0 * 65536 + (get_or text 3 0 * 256 + get_or text 7 0)

pub same_by_text : (a b : Line) → text_of a ≡ text_of b → IsSame a b
same_by_text (it.NewMessage n) (it.NewMessage m) e = numbered (codes "new msg ") n m e
same_by_text (it.MessageInfo n b s p u) (it.MessageInfo m c t q v) e = same_info n m b c s.now t.now p q u v e
same_by_text (it.Starting d n a) (it.Starting f m b) e = same_starting d f n m a b e
same_by_text (it.Status a b) (it.Status c d) e = same_status a b c d e
same_by_text (it.Delivered d o r) (it.Delivered f p s) e = same_delivered d f o p r.now s.now e
same_by_text (it.Bounced n p) (it.Bounced m q) e = same_bounced n m p q e
same_by_text (it.TripleBounce n) (it.TripleBounce m) e = numbered (codes "triple bounce: discarding bounce/") n m e
same_by_text (it.EndMessage n) (it.EndMessage m) e = numbered (codes "end msg ") n m e
same_by_text (it.StrayReport n) (it.StrayReport m) e = numbered (codes "alert: report ") n m e
same_by_text (it.Skipped n) (it.Skipped m) e = numbered (codes "alert: skip ") n m e
same_by_text (it.Left n) (it.Left m) e = numbered (codes "alert: left ") n m e
same_by_text a b e = absurd (eqb-false (kind_in (text_of a)) (kind_in (text_of b)) refl (ap kind_in e))

-- The other way round.

text_by_same : (a b : Line) → IsSame a b → text_of a ≡ text_of b
text_by_same (it.NewMessage n) (it.NewMessage m) h = ap (λ n. text_of (it.NewMessage n)) h
text_by_same (it.MessageInfo n b s p u) (it.MessageInfo m c t q v) h = info h.0 h.1 h.2 h.3 h.4
  where
    info : n ≡ m → b ≡ c → shown s.now ≡ shown t.now → p ≡ q → u ≡ v → message_info n b s.now p u ≡ message_info m c t.now q v
    info e f g k l = cc
text_by_same (it.Starting d n a) (it.Starting f m b) h = begins h.0 h.1 h.2.0 h.2.1
  where
    begins : d ≡ f → n ≡ m → channel_of a ≡ channel_of b → shown (address_of a) ≡ shown (address_of b)
        → starting d n (channel_of a) (address_of a) ≡ starting f m (channel_of b) (address_of b)
    begins e g k l = cc
text_by_same (it.Status a b) (it.Status c d) h =
    ap (λ (x : Load). text_of (it.Status x b)) h.0 ∙ ap (λ (x : Load). text_of (it.Status c x)) h.1
text_by_same (it.Delivered d o r) (it.Delivered f p s) h = ends h.0 h.1 h.2
  where
    ends : d ≡ f → o ≡ p → shown r.now ≡ shown s.now → delivered d o r.now ≡ delivered f p s.now
    ends e g k = cc
text_by_same (it.Bounced n p) (it.Bounced m q) h = ap (λ x. bounced x p) h.0 ∙ ap (bounced m) h.1
text_by_same (it.TripleBounce n) (it.TripleBounce m) h = ap (λ n. text_of (it.TripleBounce n)) h
text_by_same (it.EndMessage n) (it.EndMessage m) h = ap (λ n. text_of (it.EndMessage n)) h
text_by_same (it.StrayReport n) (it.StrayReport m) h = ap (λ n. text_of (it.StrayReport n)) h
text_by_same (it.Skipped n) (it.Skipped m) h = ap (λ n. text_of (it.Skipped n)) h
text_by_same (it.Left n) (it.Left m) h = ap (λ n. text_of (it.Left n)) h
text_by_same a b h = absurd h

pub same_is : (a b : Line) → (text_of a ≡ text_of b) ↔ IsSame a b
same_is a b = (same_by_text a b, text_by_same a b)
