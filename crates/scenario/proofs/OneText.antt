-- A script prints one text.
use Rattle.std.proofs.Common.{◌≡◌, ℕ, ◌<◌, ◌^◌, length, List, [], ◌∷◌, ◌++◌, Bool, false, Option, Some, None, sym, ap, ◌∙◌, subst, inl, inr, arith, append_assoc}
use Rattle.call_fs.specs.Disk.{Disk}
use Rattle.mail_bytes.specs.Decimal.{digits}
use Rattle.call_fs.specs.Choices.{AreNamed, contents_by}
use Rattle.call_fs.specs.Plan.{Plan, no_plan}
use Rattle.std.proofs.lemmas.List.Kept.{AllPairs-from_increasing}
use Rattle.mail_world.specs.History.{Actor, Life}
use Rattle.mail_world.specs.History.Event.{Halt}
use Rattle.mail_world.specs.History.Life.{Alive, Over, Stopped}
use Rattle.mail_world.specs.World.{mail}
use Rattle.script_words.specs.declared.entry.Entry.{Entry}
use Rattle.script_lines.specs.declared.line.Line.{Line}
use Rattle.script_lines.specs.declared.line.Line.TheVariants as line
use Rattle.script_lines.specs.declared.keyword.Alone.TheVariants as alone
use Rattle.script_lines.specs.declared.keyword.OfActor.TheVariants as of_actor
use Rattle.script_lines.specs.declared.keyword.OfCount.TheVariants as of_count
use Rattle.script_lines.specs.declared.keyword.OfLetter.TheVariants as of_letter
use Rattle.script_lines.specs.declared.keyword.OfMoment.TheVariants as of_moment
use Rattle.script_lines.specs.declared.keyword.OfSurvival.TheVariants as of_survival
use Rattle.script_lines.specs.declared.keyword.OfWord.TheVariants as of_word
use Rattle.script_lines.specs.Contents.{Content}
use Rattle.script_lines.specs.Lines.{IsScript}
use Rattle.scenario.specs.Deeds.{Deed, after, history_of}
use Rattle.scenario.specs.Deeds.Deed.{Came}
use Rattle.script_disks.specs.FirstDisk.{IsFirstDisk}
use Rattle.scenario.specs.Played.{Outcome, StopsAlive, StopComesTo, MomentComesTo, NumberComesTo, plan_after, outcome_events, printed, next_pid, Plays, PlaysAll}
use Rattle.scenario.specs.Traced.{traced_after, traced_text}
use Rattle.scenario.specs.Text.{HasFewDeeds, HaveFewDeeds, IsPlayed, Prints, IsBegun, BeginsToPrint, IsPrefix}
use Rattle.scenario.specs.Turns.{events_of, text_of, events_in}
use Rattle.scenario.proofs.OneStep.{one_step, one_start, one_run}
use Rattle.scenario.proofs.OneTurn.{one_turn, one_settled}
use Rattle.scenario.proofs.OneShown.{one_shown}
use Rattle.scenario.proofs.OneOrder.{one_order}
use Rattle.scenario.proofs.OneFirstDisk.{one_disk}
use Rattle.script_lines.proofs.SaidContents.{one_script}

-- the named numbers are one list
one_named : (d : Disk) (xs ys : List ℕ) → AreNamed d xs → AreNamed d ys → xs ≡ ys
one_named d xs ys p q =
    one_order (λ low high. low < high) (λ x y low high. omega arith) xs ys (AllPairs-from_increasing xs p.rising) (AllPairs-from_increasing ys q.rising)
    (λ n. ((λ here. let by = p.named n here in q.all by.0 n by.1), (λ here. let by = q.named n here in p.all by.0 n by.1)))

-- Lines

-- by what an outcome adds and prints
by_outcome : (name : List ℕ) (o p : Outcome) (e f : List Deed) (t u : List ℕ) → o ≡ p → e ≡ outcome_events o → f ≡ outcome_events p → t ≡ printed name o → u ≡ printed name p → (e ≡ f) × (t ≡ u)
by_outcome name o p e f t u same add add' print print' = (add ∙ ap outcome_events same ∙ sym add', print ∙ ap (printed name) same ∙ sym print')

one_life : (a : List ℕ) (life : Life) (o p : Outcome) → StopsAlive a life o → StopsAlive a life p → o ≡ p
one_life a Alive o p h k = h ∙ sym k
one_life a (Over status) o p h k = h ∙ sym k
one_life a Stopped o p h k = h ∙ sym k

one_stop : (a : List ℕ) (x : Option Actor) (o p : Outcome) → StopComesTo a x o → StopComesTo a x p → o ≡ p
one_stop a None o p h k = h ∙ sym k
one_stop a (Some x) o p h k = one_life a x.life o p h k

one_moment : (now m : ℕ) (o p : Outcome) → MomentComesTo now m o → MomentComesTo now m p → o ≡ p
one_moment now m o p (inl h) (inl k) = h.1 ∙ sym k.1
one_moment now m o p (inl h) (inr k) = let later = h.0 in let early = k.0 in absurd (omega arith)
one_moment now m o p (inr h) (inl k) = let later = k.0 in let early = h.0 in absurd (omega arith)
one_moment now m o p (inr h) (inr k) = h.1 ∙ sym k.1

one_number_text : (d : Disk) (n : ℕ) (t u : List ℕ) → NumberComesTo d n t → NumberComesTo d n u → t ≡ u
one_number_text d n t u (inl p) (inl q) = p.1 ∙ sym q.1
one_number_text d n t u (inl p) (inr q) = absurd (q.0 p.0)
one_number_text d n t u (inr p) (inl q) = absurd (p.0 q.0)
one_number_text d n t u (inr p) (inr q) = p.1 ∙ sym q.1

one_play : (d : Disk) (h : List Deed) (plan : Plan) (l : Line) (e f : List Deed) (t u : List ℕ) → Plays d h plan l e t → Plays d h plan l f u → (e ≡ f) × (t ≡ u)
one_play d h plan (line.Mail name message envelope) e f t u p q =
    by_outcome name p.0 q.0 e f t u (one_start (after d h) name (mail (next_pid h) (after d h).now message envelope) p.0 q.0 p.1 q.1) p.2 q.2 p.3 q.3
one_play d h plan (line.Actor of_actor.Step actor) e f t u p q = by_outcome actor p.0 q.0 e f t u (one_step d h plan actor p.0 q.0 p.1 q.1) p.2 q.2 p.3 q.3
one_play d h plan (line.Actor of_actor.Run actor) e f t u p q = one_run d h plan actor e f t u p q
one_play d h plan (line.Actor of_actor.Stop actor) e f t u p q =
    by_outcome actor p.0 q.0 e f t u (one_stop actor ((after d h).actors actor) p.0 q.0 p.1 q.1) p.2 q.2 p.3 q.3
one_play d h plan (line.Survival of_survival.Halt how) e f t u p q =
    let now = (after d h).disk in
    let same : p.0 ≡ q.0 = one_named now p.0 q.0 p.1 q.1 in
    (p.2 ∙ ap (λ (named : List ℕ). Came (Halt how (contents_by how now named)) ∷ []) same ∙ sym q.2, p.3 ∙ sym q.3)
one_play d h plan (line.Count of_count.Fault k) e f t u p q = (p.0 ∙ sym q.0, p.1 ∙ sym q.1)
one_play d h plan (line.Count of_count.Number n) e f t u p q = (p.0 ∙ sym q.0, one_number_text (after d h).disk n t u p.1 q.1)
one_play d h plan (line.Moment of_moment.Moment m) e f t u p q =
    by_outcome (digits (after d h).now) p.0 q.0 e f t u (one_moment (after d h).now m p.0 q.0 p.1 q.1) p.2 q.2 p.3 q.3
one_play d h plan (line.Alone alone.Trace) e f t u p q = (p.0 ∙ sym q.0, p.1 ∙ sym q.1)
one_play d h plan (line.Word of_word.Cat path) e f t u p q = (p.0 ∙ sym q.0, p.1 ∙ sym q.1)
one_play d h plan (line.Alone alone.Show) e f t u p q = (p.0 ∙ sym q.0, one_shown d (history_of h) t u p.1 q.1)
one_play d h plan (line.Alone alone.Sum) e f t u p q = (p.0 ∙ sym q.0, p.1 ∙ sym q.1)
one_play d h plan (line.Alone alone.Sender) e f t u p q = (p.0 ∙ sym q.0, p.1 ∙ sym q.1)
one_play d h plan (line.Alone alone.Turn) e f t u p q =
    let same : p.0 ≡ q.0 = one_turn d h plan p.0 q.0 p.1 q.1 in
    (p.2 ∙ ap events_of same ∙ sym q.2, p.3 ∙ ap text_of same ∙ sym q.3)
one_play d h plan (line.Letter of_letter.Settle letter) e f t u p q =
    let same = one_settled d h plan letter p.0 q.0 t u p.1 q.1 in
    (p.2 ∙ ap (events_in letter) same.0 ∙ sym q.2, same.1)
one_play d h plan (line.Report slot letter word) e f t u p q = (p.0 ∙ sym q.0, p.1 ∙ sym q.1)

-- what a line prints, of the events that it adds and of itself
same_print : (traced : Bool) (e f : List Deed) (t u : List ℕ) → (e ≡ f) × (t ≡ u) → traced_text traced e ++ t ≡ traced_text traced f ++ u
same_print traced e f t u same = ap (λ (l : List Deed). traced_text traced l ++ t) same.0 ∙ ap (λ w. traced_text traced f ++ w) same.1

-- the rest is played from what the one line left, or the other
same_rest : (d : Disk) (h : List Deed) (plan : Plan) (traced : Bool) (l : Line) (lines : List Line) (e f : List Deed) (t u : List ℕ) (mid : List Deed) (left : Plan) (rest : List ℕ)
    → (e ≡ f) × (t ≡ u) → PlaysAll d (e ++ h) (plan_after plan l e t) traced lines mid left rest → PlaysAll d (f ++ h) (plan_after plan l f u) traced lines mid left rest
same_rest d h plan traced l lines e f t u mid left rest same plays =
    subst (λ (t : List ℕ). PlaysAll d (f ++ h) (plan_after plan l f t) traced lines mid left rest) same.1
    (subst (λ (e : List Deed). PlaysAll d (e ++ h) (plan_after plan l e t) traced lines mid left rest) same.0 plays)

-- What the first of some lines print is a prefix of what all of them print.
play_prefix : (d : Disk) (h : List Deed) (plan : Plan) (traced : Bool) (first later : List Line) (mid end : List Deed) (left last : Plan) (text whole : List ℕ)
    → PlaysAll d h plan traced first mid left text → PlaysAll d h plan traced (first ++ later) end last whole → IsPrefix text whole
play_prefix d h plan traced [] later mid end left last text whole p q = (whole, ap (λ t. t ++ whole) (sym p.2))
play_prefix d h plan traced (l ∷ first) later mid end left last text whole p q =
    let one = one_play d h plan l p.0 q.0 p.1 q.1 p.3 q.3 in
    let own = traced_text traced p.0 ++ p.1 in
    let rest = play_prefix d (q.0 ++ h) (plan_after plan l q.0 q.1) (traced_after traced l) first later mid end left last p.2 q.2
    (same_rest d h plan (traced_after traced l) l first p.0 q.0 p.1 q.1 mid left p.2 one p.4) q.4 in (
      rest.0,
      q.5
          ∙ ap (λ t. (traced_text traced q.0 ++ q.1) ++ t) rest.1
          ∙ ap (λ t. t ++ (p.2 ++ rest.0)) (sym (same_print traced p.0 q.0 p.1 q.1 one))
          ∙ sym (append_assoc own p.2 rest.0)
          ∙ ap (λ t. t ++ rest.0) (sym p.5),
    )

one_play_all : (d : Disk) (h : List Deed) (plan : Plan) (traced : Bool) (lines : List Line) (mid end : List Deed) (left last : Plan) (t u : List ℕ)
    → PlaysAll d h plan traced lines mid left t → PlaysAll d h plan traced lines end last u → t ≡ u
one_play_all d h plan traced [] mid end left last t u p q = p.2 ∙ sym q.2
one_play_all d h plan traced (l ∷ lines) mid end left last t u p q =
    let one = one_play d h plan l p.0 q.0 p.1 q.1 p.3 q.3 in
    let rest = one_play_all d (q.0 ++ h) (plan_after plan l q.0 q.1) (traced_after traced l) lines mid end left last p.2 q.2
    (same_rest d h plan (traced_after traced l) l lines p.0 q.0 p.1 q.1 mid left p.2 one p.4) q.4 in
    p.5 ∙ ap (λ t. t ++ p.2) (same_print traced p.0 q.0 p.1 q.1 one) ∙ ap (λ t. (traced_text traced q.0 ++ q.1) ++ t) rest ∙ sym q.5

one_end : (d : Disk) (h : List Deed) (plan : Plan) (traced : Bool) (lines : List Line) (mid end : List Deed) (left last : Plan) (t u : List ℕ)
    → PlaysAll d h plan traced lines mid left t → PlaysAll d h plan traced lines end last u → mid ≡ end
one_end d h plan traced [] mid end left last t u p q = p.0 ∙ sym q.0
one_end d h plan traced (l ∷ lines) mid end left last t u p q =
    let one = one_play d h plan l p.0 q.0 p.1 q.1 p.3 q.3 in
    one_end d (q.0 ++ h) (plan_after plan l q.0 q.1) (traced_after traced l) lines mid end left last p.2 q.2
    (same_rest d h plan (traced_after traced l) l lines p.0 q.0 p.1 q.1 mid left p.2 one p.4) q.4

-- from one disk
all_from : (opening : List Entry) (d e : Disk) (lines : List Line) (end : List Deed) (left : Plan) (t : List ℕ) → IsFirstDisk opening d → IsFirstDisk opening e
    → PlaysAll d [] no_plan false lines end left t → PlaysAll e [] no_plan false lines end left t
all_from opening d e lines end left t p q plays = subst (λ (x : Disk). PlaysAll x [] no_plan false lines end left t) (one_disk opening d e p q) plays

one_played : (opening : List Entry) (lines : List Line) (t u : List ℕ) → IsPlayed opening lines t → IsPlayed opening lines u → t ≡ u
one_played opening lines t u p q =
    one_play_all q.disk [] no_plan false lines p.deeds q.deeds p.left q.left t u (all_from opening p.disk q.disk lines p.deeds p.left t p.is_first q.is_first p.plays) q.plays

-- lines make one list of deeds
pub one_list : (opening : List Entry) (lines : List Line) (t u : List ℕ) (p : IsPlayed opening lines t) (q : IsPlayed opening lines u) → p.deeds ≡ q.deeds
one_list opening lines t u p q =
    one_end q.disk [] no_plan false lines p.deeds q.deeds p.left q.left t u (all_from opening p.disk q.disk lines p.deeds p.left t p.is_first q.is_first p.plays) q.plays

-- so if one play of them has few deeds each has
pub few_played : (opening : List Entry) (lines : List Line) (text : List ℕ) (played : IsPlayed opening lines text) → length played.deeds < 2 ^ 63 → HaveFewDeeds opening lines
few_played opening lines text played few other again = subst (λ (l : List Deed). length l < 2 ^ 63) (one_list opening lines text other played again) few

-- Scripts

pub few_printed : (script : List ℕ) (content : Content) → IsScript script content → HaveFewDeeds content.opening content.lines → HasFewDeeds script
few_printed script content says few text prints =
    let same = one_script script content prints.content says prints.says in
    let these : HaveFewDeeds prints.content.opening prints.content.lines = subst (λ (c : Content). HaveFewDeeds c.opening c.lines) same few in
    these text prints.played

pub one_text : (script a b : List ℕ) → Prints script a → Prints script b → a ≡ b
one_text script a b p q =
    one_played q.content.opening q.content.lines a b
    (subst (λ (c : Content). IsPlayed c.opening c.lines a) (one_script script p.content q.content p.says q.says) p.played) q.played

begun_prefix : (opening : List Entry) (lines : List Line) (begun whole : List ℕ) → IsBegun opening lines begun → IsPlayed opening lines whole → IsPrefix begun whole
begun_prefix opening lines begun whole p q =
    let front = play_prefix q.disk [] no_plan false p.first p.later p.played.deeds q.deeds p.played.left q.left p.printed whole
    (all_from opening p.played.disk q.disk p.first p.played.deeds p.played.left p.printed p.played.is_first q.is_first p.played.plays)
    (subst (λ (l : List Line). PlaysAll q.disk [] no_plan false l q.deeds q.left whole) p.lines_are q.plays) in
    (p.rest ++ front.0, front.1 ∙ ap (λ t. t ++ front.0) p.text_is ∙ append_assoc begun p.rest front.0)

pub begins_prefix : (script begun whole : List ℕ) → BeginsToPrint script begun → Prints script whole → IsPrefix begun whole
begins_prefix script begun whole p q =
    begun_prefix q.content.opening q.content.lines begun whole
    (subst (λ (c : Content). IsBegun c.opening c.lines begun) (one_script script p.content q.content p.says q.says) p.played) q.played
