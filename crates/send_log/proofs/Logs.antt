-- A log is read in one way.
use Rattle.std.proofs.Common.{◌≡◌, ◌≢◌, ℕ, List, [], ◌∷◌, ◌++◌, sym, ap, ◌∙◌, arith, append_assoc, refl}
use Rattle.std.specs.Prelude.{◌↔◌, All}
use Rattle.std.specs.List.{AllByRecursion}
use Rattle.std.proofs.lemmas.List.Elements.{recursion_from_All}
use Rattle.send_log.specs.declared.lines.Line.{Line}
use Rattle.send_log.specs.Lines.{AreSame, IsPrinted, IsSame, log_of, text_of}
use Rattle.send_log.proofs.Apart.{same_is}
use Rattle.send_log.proofs.Cuts.{Lacks, cut_at}
use Rattle.send_log.proofs.Printed.{line_prints}

printed_lacks : (text : List ℕ) → AllByRecursion IsPrinted text → Lacks 10 text
printed_lacks [] h = tt
printed_lacks (b ∷ text) h = let low = h.0.0 in ((λ e. absurd (omega arith)), printed_lacks text h.1)

-- a line and what comes after it
record Ended (l : Line) : Type 0 where
  text : List ℕ
  is : text_of l ≡ text ++ 10 ∷ []
  lacks : Lacks 10 text

ended : (l : Line) → Ended l
ended l = let w = line_prints l in record { text = w.0; is = w.1.0; lacks = printed_lacks w.0 (recursion_from_All IsPrinted w.0 w.1.1) }

begins : (l : Line) (h : Ended l) (rest : List ℕ) → text_of l ++ rest ≡ h.text ++ 10 ∷ rest
begins l h rest = ap (λ t. t ++ rest) h.is ∙ append_assoc h.text (10 ∷ []) rest

nothing : (text rest : List ℕ) → [] ≢ text ++ 10 ∷ rest
nothing [] rest e = absurd (cc)
nothing (b ∷ text) rest e = absurd (cc)

same_lines : (lines others : List Line) → log_of lines ≡ log_of others → AreSame lines others
same_lines [] [] e = tt
same_lines [] (b ∷ others) e = absurd (nothing (ended b).text (log_of others) (e ∙ begins b (ended b) (log_of others)))
same_lines (a ∷ lines) [] e = absurd (nothing (ended a).text (log_of lines) (sym e ∙ begins a (ended a) (log_of lines)))
same_lines (a ∷ lines) (b ∷ others) e =
    let x = ended a in
    let y = ended b in
    let w = cut_at 10 x.text y.text (log_of lines) (log_of others) x.lacks y.lacks (sym (begins a x (log_of lines)) ∙ e ∙ begins b y (log_of others)) in
    ((same_is a b).0 (x.is ∙ ap (λ t. t ++ 10 ∷ []) w.0 ∙ sym y.is), same_lines lines others w.1)

same_log : (lines others : List Line) → AreSame lines others → log_of lines ≡ log_of others
same_log [] [] h = refl
same_log [] (b ∷ others) h = absurd h
same_log (a ∷ lines) [] h = absurd h
same_log (a ∷ lines) (b ∷ others) h = ap (λ t. t ++ log_of lines) ((same_is a b).1 h.0) ∙ ap (λ t. text_of b ++ t) (same_log lines others h.1)

pub logs_are : (lines others : List Line) → (log_of lines ≡ log_of others) ↔ AreSame lines others
logs_are lines others = (same_lines lines others, same_log lines others)
