-- The next piece of a text, and the row that writes it.
use Rattle.std.proofs.Common.{◌≡◌, ℕ, ◌+◌, ◌-◌, ◌≤◌, List, ◌++◌, length, take, drop, Option, Some, None, Bool, true, false, refl, sym, ap, ◌∙◌, ⊎_elim, arith, length-drop, length-append}
use Rattle.std.specs.Prelude.{if◌then◌else◌, nat_lt, nat_le}
use Rattle.std.proofs.lemmas.List.{take_all}
use Rattle.std.proofs.lemmas.Bool.{lt-ltb, le-ltb, le-leb, lt-leb, cases_lt}
use Rattle.std.proofs.Math.Seq.{take-append_seam}
use Rattle.queue_inject.specs.declared.intake.Verdict.{Verdict}
use Rattle.queue_inject.specs.declared.intake.Verdict.TheVariants.{Open, Whole, Faulty}
use Rattle.queue_inject.specs.declared.row.Row.{Row}
use Rattle.queue_inject.specs.Texts.{Text}
use Rattle.queue_inject.specs.Table.{piece_size, past_piece}
use Rattle.queue_inject.specs.Rows.{has_piece, past_text}
use Rattle.queue_inject.specs.Stands.{IsNext}

pub either : (P : Row → Type 0) (t : Bool) (x y : Row) → P x → P y → P (if t then x else y)
either P true x y at_x at_y = at_x
either P false x y at_x at_y = at_y

-- what holds of each row that may follow holds of the one that does
pub past_by : (P : Row → Type 0) (bytes : List ℕ) (fault : Option ℕ) (done : ℕ) (more end : Row) (bad : ℕ → Row) → P more → P end → ((status : ℕ) → P (bad status))
    → P (past_piece bytes fault done more end bad)
past_by P bytes None done more end bad at_more at_end at_bad = either P (nat_lt done (length bytes)) more end at_more at_end
past_by P bytes (Some status) done more end bad at_more at_end at_bad = either P (nat_le (done + piece_size) (length bytes)) more (bad status) at_more (at_bad status)

pub past_text_by : (P : Row → Type 0) (v : Verdict) (end : Row) (bad : ℕ → Row) → P end → ((status : ℕ) → P (bad status)) → P (past_text v end bad)
past_text_by P Open end bad at_end at_bad = at_end
past_text_by P Whole end bad at_end at_bad = at_end
past_text_by P (Faulty status) end bad at_end at_bad = at_bad status

full_piece : (bytes : List ℕ) (fault : Option ℕ) (done : ℕ) (more end : Row) (bad : ℕ → Row) → done + piece_size ≤ length bytes → past_piece bytes fault done more end bad ≡ more
full_piece bytes None done more end bad full = ap (λ t. if t then more else end) (lt-ltb done (length bytes) (omega arith))
full_piece bytes (Some status) done more end bad full = ap (λ t. if t then more else bad status) (le-leb (done + piece_size) (length bytes) full)

some_left : (done all len : ℕ) → all - done ≡ len → nat_lt done all ≡ nat_lt 0 len
some_left done all len e = ⊎_elim
    (λ some. lt-ltb done all some ∙ sym (lt-ltb 0 len (omega arith)))
    (λ none. le-ltb done all none ∙ sym (le-ltb 0 len (omega arith)))
    (cases_lt done all)

full_left : (done all len : ℕ) → all - done ≡ len → nat_le (done + piece_size) all ≡ nat_le piece_size len
full_left done all len e = ⊎_elim
    (λ short. lt-leb (done + piece_size) all short ∙ sym (lt-leb piece_size len (omega arith)))
    (λ full. le-leb (done + piece_size) all full ∙ sym (le-leb piece_size len (omega arith)))
    (cases_lt all (done + piece_size))

left_of : (done : ℕ) (bytes piece : List ℕ) → drop done bytes ≡ piece → length bytes - done ≡ length piece
left_of done bytes piece e = sym (length-drop done bytes) ∙ ap length e

-- A text that goes on has a full piece. So what is known of a text tells its row.
pub row_is : (v : Verdict) (piece : List ℕ) (text : Text) (done : ℕ) (more end : Row) (bad : ℕ → Row) → IsNext v piece text done → (v ≡ Open → length piece ≡ piece_size)
    → past_piece text.bytes text.fault done more end bad ≡ (if has_piece v (length piece) then more else past_text v end bad)
row_is Open piece text done more end bad (rest, next) full =
    let size = full refl in
    let len : length text.bytes - done ≡ length piece + length rest = left_of done text.bytes (piece ++ rest) next ∙ length-append piece rest in
    full_piece text.bytes text.fault done more end bad (omega arith)
row_is Whole piece text done more end bad (next, none) full =
    ap (λ f. past_piece text.bytes f done more end bad) none ∙ ap (λ t. if t then more else end) (some_left done (length text.bytes) (length piece) (left_of done text.bytes piece next))
row_is (Faulty status) piece text done more end bad (next, some) full =
    ap (λ f. past_piece text.bytes f done more end bad) some ∙ ap (λ t. if t then more else bad status) (full_left done (length text.bytes) (length piece) (left_of done text.bytes piece next))

-- and the bytes that it writes
pub piece_is : (v : Verdict) (piece : List ℕ) (text : Text) (done : ℕ) → IsNext v piece text done → (v ≡ Open → length piece ≡ piece_size) → length piece ≤ piece_size
    → take piece_size (drop done text.bytes) ≡ piece
piece_is Open piece text done (rest, next) full short =
    ap (take piece_size) next ∙ ap (λ n. take n (piece ++ rest)) (sym (full refl)) ∙ take-append_seam piece rest
piece_is Whole piece text done (next, none) full short = ap (take piece_size) next ∙ take_all piece_size piece short
piece_is (Faulty status) piece text done (next, some) full short = ap (take piece_size) next ∙ take_all piece_size piece short
