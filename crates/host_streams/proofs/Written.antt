-- Bytes that a writer took in several writes.
use Rattle.std.proofs.Common.{◌≡◌, ℕ, List, ◌++◌, Option, None, Some, sym, ap, ◌∙◌, append_assoc, length, ◌-◌, take, drop, take-append-drop}
use Rattle.std.proofs.lemmas.List.{take_rest}
use Rattle.std.specs.Io.KnownBytes.{Appends, Keeps}

pub both : (a b c : Option (List ℕ)) (first second : List ℕ) → Appends a b first → Appends b c second → Appends a c (first ++ second)
both None b c first second p q = tt
both (Some x) None c first second p q = absurd p
both (Some x) (Some y) None first second p q = absurd q
both (Some x) (Some y) (Some z) first second p q = q ∙ ap (λ l. l ++ second) p ∙ append_assoc x first second

-- what one write took moves from what is left to what is done
pub moved : (all done left : List ℕ) (n : ℕ) → all ≡ done ++ left → all ≡ (done ++ take n left) ++ take (length left - n) (drop n left)
moved all done left n split =
    split ∙ ap (λ l. done ++ l) (sym (take-append-drop n left)) ∙ sym (append_assoc done (take n left) (drop n left))
    ∙ ap (λ l. (done ++ take n left) ++ l) (sym (take_rest left n))

-- a write that took nothing
pub kept : (a b c : Option (List ℕ)) (done : List ℕ) → Appends a b done → Keeps b c → Appends a c done
kept None b c done p q = tt
kept (Some x) None c done p q = absurd p
kept (Some x) (Some y) None done p q = absurd q
kept (Some x) (Some y) (Some z) done p q = q ∙ p
