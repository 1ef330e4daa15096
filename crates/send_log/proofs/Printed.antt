-- A line is a line of printed bytes and spaces.
use Rattle.std.proofs.Common.{◌≡◌, ℕ, ◌≤◌, List, [], ◌∷◌, ◌++◌, Bool, true, false, refl, sym, ap, ◌∙◌, arith, append_assoc, leb, codes}
use Rattle.std.specs.Prelude.{◌&&◌, All}
use Rattle.std.specs.List.{AllByRecursion, concat, list_all}
use Rattle.std.proofs.lemmas.Bool.{leb-true}
use Rattle.std.proofs.lemmas.List.Elements.{All-from_recursion}
use Rattle.mail_bytes.specs.Decimal.{digits, IsDigit}
use Rattle.mail_bytes.proofs.Digits.{digits_only}
use Rattle.send_log.specs.declared.lines.Outcome.{Outcome}
use Rattle.send_log.specs.declared.lines.Outcome.TheVariants.{Success, Failure, Deferral}
use Rattle.send_log.specs.declared.lines.Target.{Target}
use Rattle.send_log.specs.declared.lines.Target.TheVariants.{Local, Remote}
use Rattle.send_log.specs.declared.lines.Line.{Line}
use Rattle.send_log.specs.declared.lines.Line.TheVariants as it
use Rattle.send_log.specs.Lines.{IsPrinted, address_of, channel_of, line, shown, text_of, word_of}
use Rattle.send_log.proofs.Cuts.{IsShown, text_is_shown}

abbrev Prints : List ℕ → Type 0
Prints text = AllByRecursion IsPrinted text

and_left : (p q : Bool) → (p && q) ≡ true → p ≡ true
and_left true q e = refl
and_left false q e = absurd (cc)

and_right : (p q : Bool) → (p && q) ≡ true → q ≡ true
and_right true q e = e
and_right false q e = absurd (cc)

words_print : (text : List ℕ) → list_all (λ b. leb 32 b && leb b 126) text ≡ true → Prints text
words_print [] e = tt
words_print (b ∷ text) e =
    let here = and_left (leb 32 b && leb b 126) (list_all (λ b. leb 32 b && leb b 126) text) e in
    let rest = and_right (leb 32 b && leb b 126) (list_all (λ b. leb 32 b && leb b 126) text) e in
    ((leb-true 32 b (and_left (leb 32 b) (leb b 126) here), leb-true b 126 (and_right (leb 32 b) (leb b 126) here)), words_print text rest)

digits_print : (text : List ℕ) → AllByRecursion IsDigit text → Prints text
digits_print [] h = tt
digits_print (b ∷ text) h = let low = h.0.0 in let high = h.0.1 in ((omega arith, omega arith), digits_print text h.1)

number_prints : (n : ℕ) → Prints (digits n)
number_prints n = digits_print (digits n) (digits_only n)

all_print : (text : List ℕ) → AllByRecursion IsShown text → Prints text
all_print [] h = tt
all_print (b ∷ text) h = let low = h.0.0 in ((omega arith, h.0.1), all_print text h.1)

shown_prints : (text : List ℕ) → Prints (shown text)
shown_prints text = all_print (shown text) (text_is_shown text)

channel_prints : (t : Target) → Prints (channel_of t)
channel_prints (Local address) = words_print (codes "local") refl
channel_prints (Remote address) = words_print (codes "remote") refl

outcome_prints : (o : Outcome) → Prints (word_of o)
outcome_prints Success = words_print (codes "success") refl
outcome_prints Failure = words_print (codes "failure") refl
outcome_prints Deferral = words_print (codes "deferral") refl

prints_append : (x y : List ℕ) → Prints x → Prints y → Prints (x ++ y)
prints_append [] y h k = k
prints_append (b ∷ x) y h k = (h.0, prints_append x y h.1 k)

pieces_print : (pieces : List (List ℕ)) → AllByRecursion Prints pieces → Prints (concat pieces)
pieces_print [] h = tt
pieces_print (piece ∷ pieces) h = prints_append piece (concat pieces) h.0 (pieces_print pieces h.1)

line_is : (pieces : List (List ℕ)) → line pieces ≡ concat pieces ++ 10 ∷ []
line_is [] = refl
line_is (piece ∷ pieces) = ap (λ t. piece ++ t) (line_is pieces) ∙ sym (append_assoc piece (concat pieces) (10 ∷ []))

abbrev IsLine : List ℕ → Type 0
IsLine whole = (text : List ℕ) × ((whole ≡ text ++ 10 ∷ []) × All IsPrinted text)

prints : (pieces : List (List ℕ)) → AllByRecursion Prints pieces → IsLine (line pieces)
prints pieces h = (concat pieces, (line_is pieces, All-from_recursion IsPrinted (concat pieces) (pieces_print pieces h)))

numbered : (words : List ℕ) (n : ℕ) → Prints words → IsLine (line (words ∷ digits n ∷ []))
numbered words n h = prints (words ∷ digits n ∷ []) (h, (number_prints n, tt))

pub line_prints : (l : Line) → (text : List ℕ) × ((text_of l ≡ text ++ 10 ∷ []) × All IsPrinted text)
line_prints (it.NewMessage n) = numbered (codes "new msg ") n (words_print (codes "new msg ") refl)
line_prints (it.MessageInfo n b s p u) =
    prints (codes "info msg " ∷ digits n ∷ codes ": bytes " ∷ digits b ∷ codes " from <" ∷ shown s.now ∷ codes "> qp " ∷ digits p ∷ codes " uid " ∷ digits u ∷ []) (
      words_print (codes "info msg ") refl,
      (
        number_prints n,
        (
          words_print (codes ": bytes ") refl,
          (
            number_prints b,
            (
              words_print (codes " from <") refl,
              (
                shown_prints s.now,
                (words_print (codes "> qp ") refl, (number_prints p, (words_print (codes " uid ") refl, (number_prints u, tt)))),
              ),
            ),
          ),
        ),
      ),
    )
line_prints (it.Starting d n t) =
    prints (codes "starting delivery " ∷ digits d ∷ codes ": msg " ∷ digits n ∷ codes " to " ∷ channel_of t ∷ codes " " ∷ shown (address_of t) ∷ []) (
      words_print (codes "starting delivery ") refl,
      (
        number_prints d,
        (
          words_print (codes ": msg ") refl,
          (
            number_prints n,
            (
              words_print (codes " to ") refl,
              (
                channel_prints t,
                (words_print (codes " ") refl, (shown_prints (address_of t), tt)),
              ),
            ),
          ),
        ),
      ),
    )
line_prints (it.Status a b) =
    prints (codes "status: local " ∷ digits a.busy ∷ codes "/" ∷ digits a.limit ∷ codes " remote " ∷ digits b.busy ∷ codes "/" ∷ digits b.limit ∷ []) (
      words_print (codes "status: local ") refl,
      (
        number_prints a.busy,
        (
          words_print (codes "/") refl,
          (
            number_prints a.limit,
            (words_print (codes " remote ") refl, (number_prints b.busy, (words_print (codes "/") refl, (number_prints b.limit, tt)))),
          ),
        ),
      ),
    )
line_prints (it.Delivered d o r) =
    prints (codes "delivery " ∷ digits d ∷ codes ": " ∷ word_of o ∷ codes ": " ∷ shown r.now ∷ [])
    (words_print (codes "delivery ") refl, (number_prints d, (words_print (codes ": ") refl, (outcome_prints o, (words_print (codes ": ") refl, (shown_prints r.now, tt))))))
line_prints (it.Bounced n p) =
    prints (codes "bounce msg " ∷ digits n ∷ codes " qp " ∷ digits p ∷ [])
    (words_print (codes "bounce msg ") refl, (number_prints n, (words_print (codes " qp ") refl, (number_prints p, tt))))
line_prints (it.TripleBounce n) = numbered (codes "triple bounce: discarding bounce/") n (words_print (codes "triple bounce: discarding bounce/") refl)
line_prints (it.EndMessage n) = numbered (codes "end msg ") n (words_print (codes "end msg ") refl)
line_prints (it.StrayReport n) = numbered (codes "alert: report ") n (words_print (codes "alert: report ") refl)
line_prints (it.Skipped n) = numbered (codes "alert: skip ") n (words_print (codes "alert: skip ") refl)
line_prints (it.Left n) = numbered (codes "alert: left ") n (words_print (codes "alert: left ") refl)
