-- What an injector stands for that is fed its input as it goes.
use Rattle.std.proofs.Common.{◌≡◌, ℕ, ◌+◌, ◌-◌, ◌≤◌, min, List, length, take, drop, Bool, true, false, Option, Some, None, refl, sym, ap, ◌∙◌, subst, arith, length-drop, drop_of_length-le}
use Rattle.std.proofs.lemmas.List.{take_all, take-append-drop}
use Rattle.call_fs.specs.declared.past.Own.{Own}
use Rattle.queue_inject.specs.declared.injection.Arguments.{Arguments}
use Rattle.queue_inject.specs.declared.injection.InputEnd.TheVariants.{Whole, Unread}
use Rattle.queue_inject.specs.declared.row.Row.{Row}
use Rattle.queue_inject.specs.declared.injection.Part.{Part}
use Rattle.queue_inject.specs.declared.injection.Part.TheVariants.{Message, Envelope}
use Rattle.queue_inject.specs.Machine.{Machine, asks_by, asks}
use Rattle.queue_inject.specs.Rows.{is_open, part_in}
use Rattle.queue_inject.specs.Stands.{GoesOn, Stands, ContinuesBy, Continues, EndsBy, Ends}
use Rattle.queue_inject.proofs.Kept.{asked_by, fed_inside}
use Rattle.fed_injector.specs.Inputs.{IsInput, IsNoInput}

-- What is fed

drop_min : (xs : List ℕ) (n : ℕ) → drop (min n (length xs)) xs ≡ drop n xs
drop_min xs n = grind (arith, drop_of_length-le {A = ℕ})

goes_on : (whole text : List ℕ) (fed count : ℕ) → whole ≡ text → GoesOn whole fed (take count (drop (min fed (length text)) text))
goes_on whole text fed count is =
    let rest : List ℕ = drop (min fed (length text)) text in
    record { rest = drop count rest; next = ap (drop fed) is ∙ sym (drop_min text fed) ∙ sym (take-append-drop count rest) }

-- the next bytes are the text's
continues_by : (t : Bool) (row : Row) (o : Option Part) (args : Arguments) (text : List ℕ) (fed count : ℕ) → part_in row ≡ o → IsInput o args text
    → ContinuesBy (asks_by t row) fed args (take count (drop (min fed (length text)) text))
continues_by false row o args text fed count of is = tt
continues_by true row None args text fed count of is = subst (λ q. ContinuesBy q fed args (take count (drop (min fed (length text)) text))) (sym of) tt
continues_by true row (Some Message) args text fed count of is =
    subst (λ q. ContinuesBy q fed args (take count (drop (min fed (length text)) text))) (sym of) (goes_on args.message text fed count is.0)
continues_by true row (Some Envelope) args text fed count of is =
    subst (λ q. ContinuesBy q fed args (take count (drop (min fed (length text)) text))) (sym of) (goes_on args.envelope text fed count is.0)

-- what is left of a text from a place on
abbrev pub rest_from : List ℕ → ℕ → List ℕ
rest_from text from = take (length text - from) (drop from text)

rest_is : (text : List ℕ) (from : ℕ) → rest_from text from ≡ drop from text
rest_is text from = take_all (length text - from) (drop from text) (omega (arith, length-drop from text))

pub text_continues : (m : Machine) (args : Arguments) (text : List ℕ) (from count : ℕ) → from ≡ min m.heard.fed (length text) → IsInput (part_in m.row) args text
    → Continues m args (take count (rest_from text from))
text_continues m args text from count at is =
    subst (λ r. Continues m args (take count r)) (ap (λ n. drop n text) (sym at) ∙ sym (rest_is text from))
    (continues_by (is_open m.heard.verdict) m.row (part_in m.row) args text m.heard.fed count refl is)

all_fed : (whole text : List ℕ) (fed : ℕ) → whole ≡ text → fed ≤ length whole → length text ≤ fed → fed ≡ length whole
all_fed whole text fed is inside all = let same = ap length is in omega arith

-- and after them comes its end
ends_by : (t : Bool) (row : Row) (o : Option Part) (args : Arguments) (text : List ℕ) (fed : ℕ) → part_in row ≡ o → IsInput o args text → length text ≤ fed
    → (asks_by t row ≡ Some Message → fed ≤ length args.message) → (asks_by t row ≡ Some Envelope → fed ≤ length args.envelope) → EndsBy (asks_by t row) fed args Whole
ends_by false row o args text fed of is all message envelope = tt
ends_by true row None args text fed of is all message envelope = subst (λ q. EndsBy q fed args Whole) (sym of) tt
ends_by true row (Some Message) args text fed of is all message envelope = subst (λ q. EndsBy q fed args Whole) (sym of) (all_fed args.message text fed is.0 (message of) all, is.1)
ends_by true row (Some Envelope) args text fed of is all message envelope = subst (λ q. EndsBy q fed args Whole) (sym of) (all_fed args.envelope text fed is.0 (envelope of) all, is.1)

pub text_ends : (m : Machine) (args : Arguments) (past : List Own) (text : List ℕ) → Stands m args past → IsInput (part_in m.row) args text → length text ≤ m.heard.fed → Ends m args Whole
text_ends m args past text s is all =
    let inside = fed_inside m args past s in
    ends_by (is_open m.heard.verdict) m.row (part_in m.row) args text m.heard.fed refl is all inside.0 inside.1

pub all_of_rest : (text : List ℕ) (fed from count after : ℕ) → from ≡ min fed (length text) → count ≡ length (rest_from text from) → after ≡ fed + length (take count (rest_from text from)) → length text ≤ after
all_of_rest text fed from count after at all on =
    let rest = ap length (rest_is text from) in
    let left = length-drop from text in
    let whole = ap length (take_all count (rest_from text from) (omega arith)) in
    omega arith

-- the part that is asked for is the row's
pub asked_part : (m : Machine) (part : Part) → asks m ≡ Some part → part_in m.row ≡ Some part
asked_part m part e = (asked_by m.heard.verdict m.row part e).1

-- an input that ended before its first byte

no_more : (whole : List ℕ) (fed : ℕ) → length whole ≡ 0 → fed ≤ length whole → fed ≡ length whole
no_more whole fed none inside = omega (arith, none, inside)

cut_by : (t : Bool) (row : Row) (o : Option Part) (args : Arguments) (fed : ℕ) → part_in row ≡ o → IsNoInput args
    → (asks_by t row ≡ Some Message → fed ≤ length args.message) → (asks_by t row ≡ Some Envelope → fed ≤ length args.envelope) → EndsBy (asks_by t row) fed args Unread
cut_by false row o args fed of is message envelope = tt
cut_by true row None args fed of is message envelope = subst (λ q. EndsBy q fed args Unread) (sym of) tt
cut_by true row (Some Message) args fed of is message envelope =
    subst (λ q. EndsBy q fed args Unread) (sym of) (no_more args.message fed (ap length is.message_is) (message of), is.message_end)
cut_by true row (Some Envelope) args fed of is message envelope =
    subst (λ q. EndsBy q fed args Unread) (sym of) (no_more args.envelope fed (ap length is.envelope_is) (envelope of), is.envelope_end)

pub text_cut : (m : Machine) (args : Arguments) (past : List Own) → Stands m args past → IsNoInput args → Ends m args Unread
text_cut m args past s is =
    let inside = fed_inside m args past s in
    cut_by (is_open m.heard.verdict) m.row (part_in m.row) args m.heard.fed refl is inside.0 inside.1
