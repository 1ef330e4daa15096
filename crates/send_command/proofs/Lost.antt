-- What was told of a link that was lost.
use Rattle.std.proofs.Common.{◌≡◌, ℕ, suc, List, [], ◌∷◌, ◌++◌, take, drop, get_or, true, ◌==◌, Some, None, refl, sym, ap, ◌∙◌, subst, inl, inr}
use Rattle.std.specs.Prelude.{Contains}
use Rattle.std.specs.List.{All, remove}
use Rattle.std.proofs.lemmas.List.Elements.{All-nil, All-cons, All-append, All-set, All-take, All-drop, All-weaker, All-get_or, Contains-append_left, Contains-append_right, Contains-push}
use Rattle.std.proofs.lemmas.List.Quantifiers.{position-Some}
use Rattle.std.proofs.lemmas.Option.{slice_get_within, get_or_from_slice_get}
use Rattle.std.proofs.lemmas.Bool.Decides.{Decides-eqb}
use Rattle.call_fs.specs.declared.past.ChildData.{ChildData}
use Rattle.call_fs.specs.declared.past.GotData.{GotData}
use Rattle.call_fs.specs.declared.past.GotData.TheVariants as got
use Rattle.call_fs.specs.declared.past.NeedData.{NeedData}
use Rattle.call_fs.specs.declared.past.NeedData.TheVariants as needs
use Rattle.call_fs.specs.declared.past.Own.{Own}
use Rattle.call_fs.specs.declared.program.Port.{Port}
use Rattle.outside.specs.Children.{Posted, SpawnCall}
use Rattle.outside.specs.Children.SpawnCall.{Feed}
use Rattle.outside.specs.declared.posts.Waiting.{Waiting}
use Rattle.outside.specs.declared.posts.Waiting.TheVariants as waiting
use Rattle.outside.specs.declared.sink.Gave.{Gave}
use Rattle.outside.specs.declared.sink.Gave.TheVariants as gave
use Rattle.outside.specs.declared.spawner.Started.{Started}
use Rattle.outside.specs.declared.spawner.Started.TheVariants as started
use Rattle.program_runner.specs.declared.line.Line.{Line}
use Rattle.program_runner.specs.declared.line.Line.TheVariants as line
use Rattle.program_runner.specs.Lines.{GivesBy, LineState, Serves, TakesBy, TakesOf, after_start, after_taking, brought, came_of_giving, is_of, left_at, line_of, link_line, link_of, piece_of, slot_of}
use Rattle.program_runner.specs.Members.{Leads, Shifts, Step, all_asked, all_calls, asked_in, events_of}
use Rattle.program_runner.specs.Members.Step.{Acted, Looked}
use Rattle.program_runner.proofs.Members.{flat_more}
use Rattle.send_command.specs.Ends.{IsCut, IsLost}
use Rattle.send_command.specs.Ends.IsLost.{HasEnded, Unheard, Ungiven}

-- What came and is kept of ends and failures was brought by these answers

abbrev IsEnd : Waiting → Type 0
IsEnd (waiting.Bytes chan bytes) = ⊥
IsEnd (waiting.End chan) = Unit {0}
IsEnd (waiting.Failed chan) = Unit {0}

abbrev Came : List Posted → Waiting → Type 0
Came asked piece = IsEnd piece → Contains (brought asked) piece

all_in : (l : List Waiting) → All (Contains l) l
all_in [] = All-nil (λ (w : Waiting). Contains [] w)
all_in (x ∷ l) =
    All-cons (Contains (x ∷ l)) x l (Contains-append_left (x ∷ []) l x (Contains-push [] x))
    (All-weaker (Contains l) (Contains (x ∷ l)) (λ y c. Contains-append_right (x ∷ []) l y c) l (all_in l))

brought_more : (a b : List Posted) → brought (a ++ b) ≡ brought a ++ brought b
brought_more a b = flat_more (λ (p : Posted). piece_of p.answer p.bytes) a b

came_first : (a b : List Posted) (piece : Waiting) → Contains (brought a) piece → Contains (brought (a ++ b)) piece
came_first a b piece c = subst (λ l. Contains l piece) (sym (brought_more a b)) (Contains-append_left (brought a) (brought b) piece c)

came_later : (a b : List Posted) (piece : Waiting) → Contains (brought b) piece → Contains (brought (a ++ b)) piece
came_later a b piece c = subst (λ l. Contains l piece) (sym (brought_more a b)) (Contains-append_right (brought a) (brought b) piece c)

removed : (asked : List Posted) (kept : List Waiting) (place : ℕ) → All (Came asked) kept → All (Came asked) (remove kept place)
removed asked kept place all = All-append (Came asked) (take place kept) (drop (suc place) kept) (All-take (Came asked) place kept all) (All-drop (Came asked) (suc place) kept all)

left : (asked : List Posted) (kept : List Waiting) (place chan : ℕ) (rest : List ℕ) → All (Came asked) kept → All (Came asked) (left_at kept place chan rest)
left asked kept place chan [] all = removed asked kept place all
left asked kept place chan (b ∷ rest) all = All-set (Came asked) kept place (waiting.Bytes chan (b ∷ rest)) (λ h. absurd h) all

takes_on : (asked : List Posted) (chan : ℕ) (came : GotData) (old new : List Waiting) → TakesOf chan came old new → All (Came asked) old → All (Came asked) new
takes_on asked chan (got.Took bytes) old new takes all = subst (All (Came asked)) (sym takes.5) (left asked old takes.0 chan takes.2 all)
takes_on asked chan got.End old new takes all = subst (All (Came asked)) (sym takes.4) (removed asked old takes.0 all)
takes_on asked chan got.Failed old new takes all = subst (All (Came asked)) (sym takes.4) (removed asked old takes.0 all)
takes_on asked chan (got.Answered told) old new takes all = absurd takes
takes_on asked chan (got.Ended status) old new takes all = absurd takes
takes_on asked chan got.Crashed old new takes all = absurd takes
takes_on asked chan got.Gave old new takes all = absurd takes
takes_on asked chan (got.Started pid) old new takes all = absurd takes
takes_on asked chan got.Memory old new takes all = absurd takes

record Hears (first : LineState) (asked : List Posted) (l : LineState) : Type 0 where
  links : l.links ≡ first.links
  told : All (Came asked) l.kept

still : (first : LineState) (asked : List Posted) (l m : LineState) → m ≡ l → Hears first asked l → Hears first asked m
still first asked l m same h = subst (Hears first asked) (sym same) h

over_links : (slot : ℕ) (came : GotData) (l : LineState) → ((after_taking slot came l).links ≡ l.links) × ((after_taking slot came l).kept ≡ l.kept)
over_links slot got.End l = (refl, refl)
over_links slot got.Failed l = (refl, refl)
over_links slot (got.Answered told) l = (refl, refl)
over_links slot (got.Took bytes) l = (refl, refl)
over_links slot (got.Ended status) l = (refl, refl)
over_links slot got.Crashed l = (refl, refl)
over_links slot got.Gave l = (refl, refl)
over_links slot (got.Started pid) l = (refl, refl)
over_links slot got.Memory l = (refl, refl)

module _ (first : LineState) (asked : List Posted) where
  hears_taking : (it : Line) (came : GotData) (calls : List SpawnCall) (l m : LineState) → TakesBy it came calls l m → Hears first asked l → Hears first asked m
  hears_taking line.Missing came calls l m takes h = still first asked l m takes.2 h
  hears_taking line.Output came calls l m takes h = still first asked l m takes.2 h
  hears_taking (line.Link chan) came calls l m takes h = record {
    links = ap (λ (x : LineState). x.links) takes.3 ∙ h.links;
    told = subst (All (Came asked)) (sym (ap (λ (x : LineState). x.kept) takes.3)) (takes_on asked chan came l.kept takes.0 takes.1 h.told);
  }
  hears_taking (line.Program slot chan) came calls l m takes h =
      let o = over_links slot came (record l { kept = takes.0 }) in
      record {
        links = ap (λ (x : LineState). x.links) takes.3 ∙ o.0 ∙ h.links;
        told = subst (All (Came asked)) (sym (ap (λ (x : LineState). x.kept) takes.3 ∙ o.1)) (takes_on asked chan came l.kept takes.0 takes.1 h.told);
      }
  hears_taking (line.Status slot chan) came calls l m takes h = record {
    links = ap (λ (x : LineState). x.links) takes.4 ∙ h.links;
    told = subst (All (Came asked)) (sym (ap (λ (x : LineState). x.kept) takes.4)) h.told;
  }

  hears_start : (slot : ℕ) (told : Started) (l m : LineState) → m ≡ after_start slot told l → Hears first asked l → Hears first asked m
  hears_start slot (started.Chan chan pid) l m is h = record {
    links = ap (λ (x : LineState). x.links) is ∙ h.links;
    told = subst (All (Came asked)) (sym (ap (λ (x : LineState). x.kept) is)) h.told;
  }
  hears_start slot started.Failed l m is h = still first asked l m is h
  hears_start slot started.Memory l m is h = still first asked l m is h

  hears_served : (words : ChildData → List (List ℕ)) (due : NeedData) (came : GotData) (calls : List SpawnCall) (l m : LineState) → Serves words due came calls l m → Hears first asked l → Hears first asked m
  hears_served words (needs.Take p) came calls l m s h = hears_taking (line_of l p) came calls l m s h
  hears_served words (needs.Give p bytes) came calls l m s h = still first asked l m s.3 h
  hears_served words (needs.Start child) came calls l m s h = hears_start (slot_of child) s.0 l m s.3 h
  hears_served words (needs.File call) came calls l m s h = still first asked l m s.1 h
  hears_served words (needs.Command bytes) came calls l m s h = absurd s
  hears_served words needs.Wait came calls l m s h = absurd s
  hears_served words (needs.Ended status) came calls l m s h = absurd s

hears_more : (first : LineState) (before asked : List Posted) (old new : LineState) → new ≡ record old { kept = old.kept ++ brought asked } → Hears first before old → Hears first (before ++ asked) new
hears_more first before asked old new is h = record {
  links = ap (λ (x : LineState). x.links) is ∙ h.links;
  told = subst (All (Came (before ++ asked))) (sym (ap (λ (x : LineState). x.kept) is))
      (All-append (Came (before ++ asked)) old.kept (brought asked)
      (All-weaker (Came before) (Came (before ++ asked)) (λ piece told f. came_first before asked piece (told f)) old.kept h.told)
      (All-weaker (Contains (brought asked)) (Came (before ++ asked)) (λ piece c f. came_later before asked piece c) (brought asked) (all_in (brought asked))));
}

-- the newest event lost this link
abbrev pub Loses : Port → List Own → Type 0
Loses link [] = ⊥
Loses link (event ∷ before) = IsLost link event.due event.came

-- the piece that was taken
same_chan : (chan from : ℕ) → (from == chan) ≡ true → from ≡ chan
same_chan chan from is = (Decides-eqb from chan).0 is

module _ (words : ChildData → List (List ℕ)) (first : LineState) (fresh : first.kept ≡ []) where
  gathered : (step : Step) (before : List Step) (mid last : LineState) → Hears first (all_asked before) mid → (s : Shifts words mid step last) → Hears first (all_asked (step ∷ before)) s.gathered
  gathered step before mid last h s = hears_more first (all_asked before) (asked_in step) mid s.gathered s.gathers.keeps h

  heard : (turns : List Step) (last : LineState) → Leads words first turns last → Hears first (all_asked turns) last
  heard [] last leads = subst (Hears first []) (sym leads) (record { links = refl; told = subst (All (Came [])) (sym fresh) (All-nil (Came [])) })
  heard (Acted asked event calls ∷ before) last leads =
      hears_served first (all_asked (Acted asked event calls ∷ before)) words event.due event.came calls leads.2.gathered last leads.2.moves
      (gathered (Acted asked event calls) before leads.0 last (heard before leads.0 leads.1) leads.2)
  heard (Looked asked read ready due ∷ before) last leads =
      still first (all_asked (Looked asked read ready due ∷ before)) leads.2.gathered last leads.2.moves.1
      (gathered (Looked asked read ready due) before leads.0 last (heard before leads.0 leads.1) leads.2)

  module _ (asked : List Posted) (chan : ℕ) (l : LineState) (h : Hears first asked l) where
    ended : (new : List Waiting) → TakesOf chan got.End l.kept new → Contains (brought asked) (waiting.End chan)
    ended new takes =
        let piece : Waiting = waiting.End takes.1 in
        let inside = slice_get_within l.kept takes.0 piece takes.3 in
        let is = get_or_from_slice_get l.kept takes.0 piece piece takes.3 in
        let told = subst (Came asked) is (All-get_or (Came asked) l.kept takes.0 piece inside h.told) tt in
        let of = same_chan chan takes.1 (subst (λ p. is_of chan p ≡ true) is (position-Some (is_of chan) l.kept takes.0 piece takes.2).1) in
        subst (λ k. Contains (brought asked) (waiting.End k)) of told

    failed : (new : List Waiting) → TakesOf chan got.Failed l.kept new → Contains (brought asked) (waiting.Failed chan)
    failed new takes =
        let piece : Waiting = waiting.Failed takes.1 in
        let inside = slice_get_within l.kept takes.0 piece takes.3 in
        let is = get_or_from_slice_get l.kept takes.0 piece piece takes.3 in
        let told = subst (Came asked) is (All-get_or (Came asked) l.kept takes.0 piece inside h.told) tt in
        let of = same_chan chan takes.1 (subst (λ p. is_of chan p ≡ true) is (position-Some (is_of chan) l.kept takes.0 piece takes.2).1) in
        subst (λ k. Contains (brought asked) (waiting.Failed k)) of told

  module _ (link : Port) (i chan : ℕ) (linked : link_of first i ≡ Some chan) (line_is : (l : LineState) → line_of l link ≡ link_line (link_of l i)) where
    of_link : (asked : List Posted) (l : LineState) → Hears first asked l → line_of l link ≡ line.Link chan
    of_link asked l h = line_is l ∙ ap link_line (ap (λ ls. get_or ls i None) h.links ∙ linked)

    fed : (told : Gave) → got.Failed ≡ came_of_giving told → told ≡ gave.Failed
    fed gave.Done is = absurd (cc)
    fed gave.Failed is = refl

    by_event : (turns : List Step) (asked : List Posted) (event : Own) (calls : List SpawnCall) (l m : LineState) → Hears first (all_asked (Acted asked event calls ∷ turns)) l
        → (due : NeedData) (came : GotData) → IsLost link due came → Serves words due came calls l m → IsCut chan (Acted asked event calls ∷ turns)
    by_event turns asked event calls l m h _ _ HasEnded serves =
        let takes = subst (λ k. TakesBy k got.End calls l m) (of_link (all_asked (Acted asked event calls ∷ turns)) l h) serves in
        inl (ended (all_asked (Acted asked event calls ∷ turns)) chan l h takes.0 takes.1)
    by_event turns asked event calls l m h _ _ Unheard serves =
        let takes = subst (λ k. TakesBy k got.Failed calls l m) (of_link (all_asked (Acted asked event calls ∷ turns)) l h) serves in
        inr (inl (failed (all_asked (Acted asked event calls ∷ turns)) chan l h takes.0 takes.1))
    by_event turns asked event calls l m h _ _ (Ungiven bytes) serves =
        let given = subst (λ k. GivesBy k bytes serves.0 calls) (of_link (all_asked (Acted asked event calls ∷ turns)) l h) serves.2 in
        let call : calls ≡ Feed chan bytes gave.Failed ∷ [] = given ∙ ap (λ (t : Gave). Feed chan bytes t ∷ []) (fed serves.0 serves.1) in
        inr (inr (bytes, Contains-append_right (all_calls turns) calls (Feed chan bytes gave.Failed) (subst (λ k. Contains k (Feed chan bytes gave.Failed)) (sym call) (Contains-push [] (Feed chan bytes gave.Failed)))))

    more : (asked : List Posted) (read : ℕ) (turns : List Step) (step : Step) → all_asked (step ∷ turns) ≡ all_asked turns ++ asked → all_calls (step ∷ turns) ≡ all_calls turns ++ [] → IsCut chan turns → IsCut chan (step ∷ turns)
    more asked read turns step a c (inl e) = inl (subst (λ l. Contains (brought l) (waiting.End chan)) (sym a) (came_first (all_asked turns) asked (waiting.End chan) e))
    more asked read turns step a c (inr (inl f)) = inr (inl (subst (λ l. Contains (brought l) (waiting.Failed chan)) (sym a) (came_first (all_asked turns) asked (waiting.Failed chan) f)))
    more asked read turns step a c (inr (inr g)) = inr (inr (g.0, subst (λ l. Contains l (Feed chan g.0 gave.Failed)) (sym c) (Contains-append_left (all_calls turns) [] (Feed chan g.0 gave.Failed) g.1)))

    pub is_cut : (turns : List Step) (last : LineState) → Leads words first turns last → Loses link (events_of turns) → IsCut chan turns
    is_cut [] last leads lost = absurd lost
    is_cut (Acted asked event calls ∷ before) last leads lost =
        by_event before asked event calls leads.2.gathered last (gathered (Acted asked event calls) before leads.0 last (heard before leads.0 leads.1) leads.2)
        event.due event.came lost leads.2.moves
    is_cut (Looked asked read ready due ∷ before) last leads lost = more asked read before (Looked asked read ready due) refl refl (is_cut before leads.0 leads.1 lost)
