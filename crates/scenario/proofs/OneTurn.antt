-- A turn is one list of parts, and `settle` one list of rounds.
use Rattle.std.proofs.Common.{◌≡◌, ◌≢◌, ◌⊎◌, ℕ, List, [], ◌∷◌, ◌++◌, Option, Some, None, sym, ap, ◌∙◌, subst, inl, inr, arith}
use Rattle.std.proofs.lemmas.Bool.{false≢true}
use Rattle.call_fs.specs.Disk.{Disk}
use Rattle.call_fs.specs.Plan.{Plan}
use Rattle.scenario.specs.Deeds.{Deed, after}
use Rattle.mail_world.specs.Generations.{lowest_unreported}
use Rattle.script_words.specs.declared.letter.Letter.{Letter}
use Rattle.scenario.specs.Steps.{plan_through, IsRunOf}
use Rattle.scenario.specs.Turns.{Part, TurnsOn, IsTurnOf, next_living, events_of, text_of, place_after, Round, ReportsOn, AreReported, AreReportsAfter, slot_after, reports_of, IsRound, events_in, SettlesOn, Settles, IsSettled}
use Rattle.scenario.specs.Turns.Settles.{Rests, Full}
use Rattle.scenario.proofs.Chains.{one_chain}
use Rattle.scenario.proofs.OneStep.{one_run}

-- Turns

same_part : (x y : Part) → x.actor ≡ y.actor → x.place ≡ y.place → x.events ≡ y.events → x.text ≡ y.text → x ≡ y
same_part x y actor place events text =
    ap (λ (v : List ℕ). record { actor = v; place = x.place; events = x.events; text = x.text }) actor
    ∙ ap (λ (v : ℕ). record { actor = y.actor; place = v; events = x.events; text = x.text }) place
    ∙ ap (λ (v : List Deed). record { actor = y.actor; place = y.place; events = v; text = x.text }) events
    ∙ ap (λ (v : List ℕ). record { actor = y.actor; place = y.place; events = y.events; text = v }) text

pair_same : (a c : List ℕ) (b d : ℕ) → (◌≡◌ {A = Option (List ℕ × ℕ)} (Some (a, b)) (Some (c, d))) → (a ≡ c) × (b ≡ d)
pair_same a c b d e =
    let pair : ◌≡◌ {A = List ℕ × ℕ} (a, b) (c, d) = cc in
    (ap (λ (p : List ℕ × ℕ). p.0) pair, ap (λ (p : List ℕ × ℕ). p.1) pair)

some_same : {A : Type 0} {x y : A} → Some x ≡ Some y → x ≡ y
some_same e = cc

not_none : {A : Type 0} {x : A} → Some x ≡ None → ⊥
not_none e = absurd (cc)

turns_on_one : (d : Disk) (h : List Deed) (plan : Plan) (before : List Part) (x y : Part) → TurnsOn d h plan before x → TurnsOn d h plan before y → x ≡ y
turns_on_one d h plan before x y p q =
    let g = events_of before ++ h in
    let left = plan_through plan (events_of before) in
    let next = pair_same x.actor y.actor x.place y.place (sym p.next ∙ q.next) in
    let run = one_run d g left y.actor x.events y.events x.text y.text (subst (λ (a : List ℕ). IsRunOf d g left a x.events x.text) next.0 p.run) q.run in
    same_part x y next.0 next.1 run.0 run.1

turn_stops : (d : Disk) (h : List Deed) (plan : Plan) (before : List Part) (x : Part) → (text_of before ≢ []) ⊎ (next_living d (events_of before ++ h) (place_after before) ≡ None) → TurnsOn d h plan before x → ⊥
turn_stops d h plan before x (inl printed) on = printed on.quiet
turn_stops d h plan before x (inr none) on = not_none (sym on.next ∙ none)

pub one_turn : (d : Disk) (h : List Deed) (plan : Plan) (e f : List Part) → IsTurnOf d h plan e → IsTurnOf d h plan f → e ≡ f
one_turn d h plan e f p q =
    one_chain (TurnsOn d h plan) (λ parts. (text_of parts ≢ []) ⊎ (next_living d (events_of parts ++ h) (place_after parts) ≡ None))
    (turns_on_one d h plan) (turn_stops d h plan) e f p.are q.are p.over q.over

-- Reports

one_reports : (d : Disk) (h : List Deed) (letter : Letter) (e f : List ℕ) → AreReported d h letter e → AreReported d h letter f → e ≡ f
one_reports d h letter e f p q =
    let None_left : List ℕ → Type 0 = λ slots. lowest_unreported (slot_after slots) (after d (reports_of letter slots ++ h)) ≡ None in
    one_chain (ReportsOn d h letter) None_left (λ before x y on also. some_same (sym on ∙ also)) (λ before x none on. not_none (sym on ∙ none)) e f p.are q.are p.none q.none

one_reports_after : (d : Disk) (h : List Deed) (letter : Letter) (text e f : List ℕ) → AreReportsAfter d h letter text e → AreReportsAfter d h letter text f → e ≡ f
one_reports_after d h letter [] e f p q = one_reports d h letter e f p q
one_reports_after d h letter (b ∷ text) e f p q = p ∙ sym q

-- Rounds

same_round : (x y : Round) → x.parts ≡ y.parts → x.slots ≡ y.slots → x ≡ y
same_round x y parts slots =
    ap (λ (v : List Part). record { parts = v; slots = x.slots }) parts ∙ ap (λ (v : List ℕ). record { parts = y.parts; slots = v }) slots

one_round : (d : Disk) (h : List Deed) (plan : Plan) (letter : Letter) (x y : Round) → IsRound d h plan letter x → IsRound d h plan letter y → x ≡ y
one_round d h plan letter x y p q =
    let parts = one_turn d h plan x.parts y.parts p.turn q.turn in
    let moved = subst (λ (v : List Part). AreReportsAfter d (events_of v ++ h) letter (text_of v) x.slots) parts p.reports in
    same_round x y parts (one_reports_after d (events_of y.parts ++ h) letter (text_of y.parts) x.slots y.slots moved q.reports)

settles_on_one : (d : Disk) (h : List Deed) (plan : Plan) (letter : Letter) (before : List Round) (x y : Round) → SettlesOn d h plan letter before x → SettlesOn d h plan letter before y → x ≡ y
settles_on_one d h plan letter before x y p q =
    one_round d (events_in letter before ++ h) (plan_through plan (events_in letter before)) letter x y p.is q.is

settle_stops : (d : Disk) (h : List Deed) (plan : Plan) (letter : Letter) (rounds : List Round) (x : Round) (text : List ℕ) → Settles d h letter rounds text → SettlesOn d h plan letter rounds x → ⊥
settle_stops d h plan letter rounds x text (Rests last is) on = false≢true (sym on.more ∙ last)
settle_stops d h plan letter rounds x text (Full more all is) on = let few = on.few in absurd (omega arith)

one_settle_text : (d : Disk) (h : List Deed) (letter : Letter) (rounds : List Round) (t u : List ℕ) → Settles d h letter rounds t → Settles d h letter rounds u → t ≡ u
one_settle_text d h letter rounds t u (Rests p is) (Rests q are) = is ∙ sym are
one_settle_text d h letter rounds t u (Rests p is) (Full q all are) = absurd (false≢true (sym q ∙ p))
one_settle_text d h letter rounds t u (Full p all is) (Rests q are) = absurd (false≢true (sym p ∙ q))
one_settle_text d h letter rounds t u (Full p all is) (Full q full are) = is ∙ sym are

pub one_settled : (d : Disk) (h : List Deed) (plan : Plan) (letter : Letter) (e f : List Round) (t u : List ℕ) → IsSettled d h plan letter e t → IsSettled d h plan letter f u → (e ≡ f) × (t ≡ u)
one_settled d h plan letter e f t u p q =
    let Ends : List Round → Type 0 = λ rounds. (text : List ℕ) × Settles d h letter rounds text in
    let same : e ≡ f = one_chain (SettlesOn d h plan letter) Ends (settles_on_one d h plan letter)
    (λ before x ends on. settle_stops d h plan letter before x ends.0 ends.1 on) e f p.are q.are (t, p.stops) (u, q.stops) in
    (same, one_settle_text d h letter f t u (subst (λ (g : List Round). Settles d h letter g t) same p.stops) q.stops)
