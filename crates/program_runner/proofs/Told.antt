-- What the lines keep agrees with the past: the programs that it has, and the failures that were told.
use Rattle.std.proofs.Common.{◌≡◌, ◌⊎◌, ℕ, suc, ◌<◌, List, [], ◌∷◌, ◌++◌, length, take, drop, set, get_or, replicate, slice_get, Bool, true, false, ◌==◌, ◌&&◌, ◌||◌, not, Option, Some, None, is_some, flat_map, refl, sym, ap, ◌∙◌, subst, inl, inr, ⊎_elim, arith, length-set}
use Rattle.std.specs.List.{All, remove}
use Rattle.std.proofs.lemmas.List.{get_or-set_same, get_or-set_other, get_or-replicate, length-replicate}
use Rattle.std.proofs.lemmas.List.Elements.{All-nil, All-cons, All-append, All-set, All-take, All-drop, All-weaker, All-get_or}
use Rattle.std.proofs.lemmas.Option.{slice_get_within, get_or_from_slice_get}
use Rattle.std.proofs.lemmas.Bool.Decides.{Decides-eqb}
use Rattle.call_fs.specs.declared.past.ChildData.{ChildData}
use Rattle.call_fs.specs.declared.past.NeedData.{NeedData}
use Rattle.call_fs.specs.declared.past.NeedData.TheVariants as needs
use Rattle.call_fs.specs.declared.past.GotData.{GotData}
use Rattle.call_fs.specs.declared.past.GotData.TheVariants as got
use Rattle.call_fs.specs.declared.past.Own.{Own}
use Rattle.call_fs.specs.declared.program.Port.{Port}
use Rattle.call_fs.specs.declared.program.Port.TheVariants as port
use Rattle.outside.specs.Children.{Posted, SpawnCall, is_failure}
use Rattle.outside.specs.declared.posts.Post.{Post}
use Rattle.outside.specs.declared.posts.Post.TheVariants as post
use Rattle.outside.specs.declared.posts.Waiting.{Waiting}
use Rattle.outside.specs.declared.posts.Waiting.TheVariants as waiting
use Rattle.outside.specs.declared.spawner.Started.{Started}
use Rattle.outside.specs.declared.spawner.Started.TheVariants as started
use Rattle.program_runner.specs.declared.line.Line.{Line}
use Rattle.program_runner.specs.declared.line.Line.TheVariants as line
use Rattle.program_runner.specs.Lines.{LineState, HasOne, IsFailedAnswer, Serves, TakesBy, TakesOf, after_start, after_taking, brought, came_of_start, left_at, line_of, link_line, link_of, piece_of, program_line, program_of, slot_of, status_line}
use Rattle.program_runner.specs.Members.{LeadsToNone, Leads, Moves, Shifts, Step, all_asked, asked_in, events_of}
use Rattle.program_runner.specs.Members.Step.{Acted, Looked}
use Rattle.program_runner.specs.Programs.{AreFresh, FailsToHear, HasFailedToHear, has_program, program_after}

-- Which programs there are

-- what the lines have of programs, which an event may change
pub record Agrees (slot : ℕ) (runs : Bool) (l : LineState) : Type 0 where
  pub long : length l.programs ≡ 256
  pub some : is_some (program_of l slot) ≡ runs

agrees_still : (slot : ℕ) (runs : Bool) (l m : LineState) → m.programs ≡ l.programs → Agrees slot runs l → Agrees slot runs m
agrees_still slot runs l m same a = record {
  long = ap length same ∙ a.long;
  some = ap (λ ps. is_some (get_or ps slot None)) same ∙ a.some;
}

-- a program's channel was set, or is gone
agrees_set : (slot d : ℕ) (runs : Bool) (told : Option ℕ) (l m : LineState) → slot < 256 → m.programs ≡ set l.programs d told → Agrees slot runs l
    → ((d == slot) ≡ true → Agrees slot (is_some told) m) × ((d == slot) ≡ false → Agrees slot runs m)
agrees_set slot d runs told l m small is a = (here, other) where
  long_now : length m.programs ≡ 256
  long_now = ap length is ∙ length-set l.programs d told ∙ a.long

  here : (d == slot) ≡ true → Agrees slot (is_some told) m
  here same =
      let e : d ≡ slot = (Decides-eqb d slot).0 same in
      let inside : slot < length l.programs = let long = a.long in omega arith in
      record { long = long_now; some = ap is_some (ap (λ ps. get_or ps slot None) (is ∙ ap (λ k. set l.programs k told) e) ∙ get_or-set_same l.programs slot told None inside) }

  other : (d == slot) ≡ false → Agrees slot runs m
  other apart =
      let ne : slot ≡ d → ⊥ = λ e. let b : (d == slot) ≡ true = (Decides-eqb d slot).1 (sym e) in absurd (let no : true ≡ false = sym b ∙ apart in cc) in
      record { long = long_now; some = ap is_some (ap (λ ps. get_or ps slot None) is ∙ get_or-set_other l.programs d slot told None ne) ∙ a.some }

after_taking_same : (slot : ℕ) (came : GotData) (l : LineState) → (after_taking slot came l).programs ≡ l.programs
after_taking_same slot got.End l = refl
after_taking_same slot got.Failed l = refl
after_taking_same slot (got.Answered told) l = refl
after_taking_same slot (got.Took bytes) l = refl
after_taking_same slot (got.Ended status) l = refl
after_taking_same slot got.Crashed l = refl
after_taking_same slot got.Gave l = refl
after_taking_same slot (got.Started pid) l = refl
after_taking_same slot got.Memory l = refl

-- a line of bytes: no program comes or goes
abbrev IsOfBytes : Line → Type 0
IsOfBytes (line.Status slot chan) = ⊥
IsOfBytes other = Unit {0}

taking_same : (it : Line) (came : GotData) (calls : List SpawnCall) (l m : LineState) → IsOfBytes it → TakesBy it came calls l m → m.programs ≡ l.programs
taking_same line.Missing came calls l m of takes = ap (λ (x : LineState). x.programs) takes.2
taking_same line.Output came calls l m of takes = ap (λ (x : LineState). x.programs) takes.2
taking_same (line.Link chan) came calls l m of takes = ap (λ (x : LineState). x.programs) takes.3
taking_same (line.Program slot chan) came calls l m of takes = ap (λ (x : LineState). x.programs) takes.3 ∙ after_taking_same slot came (record l { kept = takes.0 })
taking_same (line.Status slot chan) came calls l m of takes = absurd of

link_bytes : (o : Option ℕ) → IsOfBytes (link_line o)
link_bytes None = tt
link_bytes (Some chan) = tt

program_bytes : (slot : ℕ) (o : Option ℕ) → IsOfBytes (program_line slot o)
program_bytes slot None = tt
program_bytes slot (Some chan) = tt

-- without a program the status is of none
module _ (slot : ℕ) (small : slot < 256) (runs : Bool) (words : ChildData → List (List ℕ)) where
  abbrev After : NeedData → GotData → LineState → Type 0
  After due came m = Agrees slot (program_after slot runs due came) m

  by_equal : (P : Bool → Type 0) (b : Bool) → (b ≡ true → P true) → (b ≡ false → P false) → P b
  by_equal P true here other = here refl
  by_equal P false here other = other refl

  taken_status : (d : ℕ) (o : Option ℕ) (came : GotData) (calls : List SpawnCall) (l m : LineState) → program_of l d ≡ o → TakesBy (status_line d o) came calls l m → Agrees slot runs l
      → After (needs.Take (port.Status d)) came m
  taken_status d (Some chan) came calls l m is takes a =
      let s = agrees_set slot d runs None l m small (ap (λ (x : LineState). x.programs) takes.4) a in
      by_equal (λ b. Agrees slot (not b && runs) m) (d == slot) s.0 s.1
  taken_status d None came calls l m is takes a =
      let still : Agrees slot runs m = agrees_still slot runs l m (ap (λ (x : LineState). x.programs) takes.2) a in
      by_equal (λ b. Agrees slot (not b && runs) m) (d == slot)
      (λ same. let e : d ≡ slot = (Decides-eqb d slot).0 same in
      let gone : runs ≡ false = sym still.some ∙ ap (λ (x : LineState). is_some (program_of x slot)) takes.2 ∙ ap (λ k. is_some (program_of l k)) (sym e) ∙ ap is_some is in
      subst (λ b. Agrees slot b m) gone still)
      (λ apart. still)

  taken_bytes : (p : Port) (came : GotData) (calls : List SpawnCall) (l m : LineState) → IsOfBytes (line_of l p) → program_after slot runs (needs.Take p) came ≡ runs
      → TakesBy (line_of l p) came calls l m → Agrees slot runs l → After (needs.Take p) came m
  taken_bytes p came calls l m of same takes a = subst (λ b. Agrees slot b m) (sym same) (agrees_still slot runs l m (taking_same (line_of l p) came calls l m of takes) a)

  taken : (p : Port) (came : GotData) (calls : List SpawnCall) (l m : LineState) → TakesBy (line_of l p) came calls l m → Agrees slot runs l → After (needs.Take p) came m
  taken (port.Status d) came calls l m takes a = taken_status d (program_of l d) came calls l m refl takes a
  taken port.Input came calls l m takes a = taken_bytes port.Input came calls l m (link_bytes (link_of l 0)) refl takes a
  taken port.Output came calls l m takes a = taken_bytes port.Output came calls l m tt refl takes a
  taken port.Clean came calls l m takes a = taken_bytes port.Clean came calls l m (link_bytes (link_of l 0)) refl takes a
  taken port.Lspawn came calls l m takes a = taken_bytes port.Lspawn came calls l m (link_bytes (link_of l 1)) refl takes a
  taken port.Rspawn came calls l m takes a = taken_bytes port.Rspawn came calls l m (link_bytes (link_of l 2)) refl takes a
  taken port.Todo came calls l m takes a = taken_bytes port.Todo came calls l m (link_bytes (link_of l 3)) refl takes a
  taken (port.Program d) came calls l m takes a = taken_bytes (port.Program d) came calls l m (program_bytes d (program_of l d)) refl takes a

  begun : (child : ChildData) (told : Started) (l m : LineState) → m ≡ after_start (slot_of child) told l → Agrees slot runs l → After (needs.Start child) (came_of_start told) m
  begun child (started.Chan chan pid) l m is a =
      let s = agrees_set slot (slot_of child) runs (Some chan) l m small (ap (λ (x : LineState). x.programs) is) a in
      by_equal (λ b. Agrees slot (b || runs) m) (slot_of child == slot) s.0 s.1
  begun child started.Failed l m is a = agrees_still slot runs l m (ap (λ (x : LineState). x.programs) is) a
  begun child started.Memory l m is a = agrees_still slot runs l m (ap (λ (x : LineState). x.programs) is) a

  served : (due : NeedData) (came : GotData) (calls : List SpawnCall) (l m : LineState) → Serves words due came calls l m → Agrees slot runs l → After due came m
  served (needs.Take p) came calls l m s a = taken p came calls l m s a
  served (needs.Give p bytes) came calls l m s a = agrees_still slot runs l m (ap (λ (x : LineState). x.programs) s.3) a
  served (needs.Start child) came calls l m s a = subst (λ c. After (needs.Start child) c m) (sym s.1) (begun child s.0 l m s.3 a)
  served (needs.File call) came calls l m s a = agrees_still slot runs l m (ap (λ (x : LineState). x.programs) s.1) a
  served (needs.Command bytes) came calls l m s a = absurd s
  served needs.Wait came calls l m s a = absurd s
  served (needs.Ended status) came calls l m s a = absurd s

fresh_agrees : (slot : ℕ) (l : LineState) → slot < 256 → AreFresh l → Agrees slot false l
fresh_agrees slot l small f = record {
  long = ap length f.none ∙ length-replicate {A = Option ℕ} 256 None;
  some = ap is_some (ap (λ ps. get_or ps slot None) f.none ∙ get_or-replicate {A = Option ℕ} 256 slot None None small);
}

module _ (words : ChildData → List (List ℕ)) (first : LineState) (fresh : AreFresh first) where
  agrees : (slot : ℕ) → slot < 256 → (turns : List Step) (last : LineState) → Leads words first turns last → Agrees slot (has_program slot (events_of turns)) last
  agrees slot small [] last leads = subst (λ l. Agrees slot false l) (sym leads) (fresh_agrees slot first small fresh)
  agrees slot small (Acted asked event calls ∷ before) last leads =
      let s = leads.2 in
      served slot small (has_program slot (events_of before)) words event.due event.came calls s.gathered last s.moves
      (agrees_still slot (has_program slot (events_of before)) leads.0 s.gathered (ap (λ (x : LineState). x.programs) s.gathers.keeps) (agrees slot small before leads.0 leads.1))
  agrees slot small (Looked asked read ready due ∷ before) last leads =
      let s = leads.2 in
      agrees_still slot (has_program slot (events_of before)) s.gathered last (ap (λ (x : LineState). x.programs) s.moves.1)
      (agrees_still slot (has_program slot (events_of before)) leads.0 s.gathered (ap (λ (x : LineState). x.programs) s.gathers.keeps) (agrees slot small before leads.0 leads.1))

  pub programs_agree : (turns : List Step) (last : LineState) (slot : ℕ) → Leads words first turns last → slot < 256 → is_some (program_of last slot) ≡ has_program slot (events_of turns)
  programs_agree turns last slot leads small = (agrees slot small turns last leads).some

-- Which failures were told

-- a piece that tells a failure
abbrev IsFailure : Waiting → Type 0
IsFailure (waiting.Failed chan) = Unit {0}
IsFailure (waiting.Bytes chan bytes) = ⊥
IsFailure (waiting.End chan) = ⊥

-- what is kept of a failure was told by one of these answers
abbrev WasTold : List Posted → Waiting → Type 0
WasTold asked piece = IsFailure piece → HasOne IsFailedAnswer asked

first_one : {X : Type 0} (P : X → Type 0) (a b : List X) → HasOne P a → HasOne P (a ++ b)
first_one P [] b h = absurd h
first_one P (x ∷ a) b (inl h) = inl h
first_one P (x ∷ a) b (inr h) = inr (first_one P a b h)

later_one : {X : Type 0} (P : X → Type 0) (a b : List X) → HasOne P b → HasOne P (a ++ b)
later_one P [] b h = h
later_one P (x ∷ a) b h = inr (later_one P a b h)

piece_told : (p : Posted) (answer : Post) (bytes : List ℕ) (rest : List Posted) → p.answer ≡ answer → All (WasTold (p ∷ rest)) (piece_of answer bytes)
piece_told p (post.Bytes chan len) bytes rest is = All-cons (WasTold (p ∷ rest)) (waiting.Bytes chan bytes) [] (λ h. absurd h) (All-nil (WasTold (p ∷ rest)))
piece_told p (post.End chan) bytes rest is = All-cons (WasTold (p ∷ rest)) (waiting.End chan) [] (λ h. absurd h) (All-nil (WasTold (p ∷ rest)))
piece_told p (post.Failed chan) bytes rest is =
    All-cons (WasTold (p ∷ rest)) (waiting.Failed chan) [] (λ h. inl (ap is_failure is)) (All-nil (WasTold (p ∷ rest)))
piece_told p post.Turn bytes rest is = All-nil (WasTold (p ∷ rest))

brought_told : (asked : List Posted) → All (WasTold asked) (brought asked)
brought_told [] = All-nil (WasTold [])
brought_told (p ∷ rest) =
    All-append (WasTold (p ∷ rest)) (piece_of p.answer p.bytes) (brought rest) (piece_told p p.answer p.bytes rest refl)
    (All-weaker (WasTold rest) (WasTold (p ∷ rest)) (λ piece told h. inr (told h)) (brought rest) (brought_told rest))

removed_told : (asked : List Posted) (kept : List Waiting) (place : ℕ) → All (WasTold asked) kept → All (WasTold asked) (remove kept place)
removed_told asked kept place all =
    All-append (WasTold asked) (take place kept) (drop (suc place) kept) (All-take (WasTold asked) place kept all) (All-drop (WasTold asked) (suc place) kept all)

left_told : (asked : List Posted) (kept : List Waiting) (place chan : ℕ) (rest : List ℕ) → All (WasTold asked) kept → All (WasTold asked) (left_at kept place chan rest)
left_told asked kept place chan [] all = removed_told asked kept place all
left_told asked kept place chan (b ∷ rest) all = All-set (WasTold asked) kept place (waiting.Bytes chan (b ∷ rest)) (λ h. absurd h) all

takes_told : (asked : List Posted) (chan : ℕ) (came : GotData) (old new : List Waiting) → TakesOf chan came old new → All (WasTold asked) old → All (WasTold asked) new
takes_told asked chan (got.Took bytes) old new takes all = subst (All (WasTold asked)) (sym takes.5) (left_told asked old takes.0 chan takes.2 all)
takes_told asked chan got.End old new takes all = subst (All (WasTold asked)) (sym takes.4) (removed_told asked old takes.0 all)
takes_told asked chan got.Failed old new takes all = subst (All (WasTold asked)) (sym takes.4) (removed_told asked old takes.0 all)
takes_told asked chan (got.Answered told) old new takes all = absurd takes
takes_told asked chan (got.Ended status) old new takes all = absurd takes
takes_told asked chan got.Crashed old new takes all = absurd takes
takes_told asked chan got.Gave old new takes all = absurd takes
takes_told asked chan (got.Started pid) old new takes all = absurd takes
takes_told asked chan got.Memory old new takes all = absurd takes

-- a taking that failed was of a piece that told so
taken_told : (asked : List Posted) (chan : ℕ) (old new : List Waiting) → TakesOf chan got.Failed old new → All (WasTold asked) old → HasOne IsFailedAnswer asked
taken_told asked chan old new takes all =
    let piece : Waiting = waiting.Failed takes.1 in
    let inside = slice_get_within old takes.0 piece takes.3 in
    subst (WasTold asked) (get_or_from_slice_get old takes.0 piece piece takes.3) (All-get_or (WasTold asked) old takes.0 piece inside all) tt

-- What the lines have of the input and of failures.
record Hears (first : LineState) (asked : List Posted) (l : LineState) : Type 0 where
  links : l.links ≡ first.links
  told : All (WasTold asked) l.kept

hears_still : (first : LineState) (asked : List Posted) (l m : LineState) → m ≡ l → Hears first asked l → Hears first asked m
hears_still first asked l m same h = subst (Hears first asked) (sym same) h

over_links : (slot : ℕ) (came : GotData) (l : LineState) → ((after_taking slot came l).links ≡ l.links) × ((after_taking slot came l).kept ≡ l.kept)
over_links slot got.End l = (refl, refl)
over_links slot got.Failed l = (refl, refl)
over_links slot (got.Answered told) l = (refl, refl)
over_links slot (got.Took bytes) l = (refl, refl)
over_links slot (got.Ended status) l = (refl, refl)
over_links slot got.Crashed l = (refl, refl)
over_links slot got.Gave l = (refl, refl)
over_links slot (got.Started pid) l = (refl, refl)
over_links slot got.Memory l = (refl, refl)

module _ (first : LineState) (asked : List Posted) where
  hears_taking : (it : Line) (came : GotData) (calls : List SpawnCall) (l m : LineState) → TakesBy it came calls l m → Hears first asked l → Hears first asked m
  hears_taking line.Missing came calls l m takes h = hears_still first asked l m takes.2 h
  hears_taking line.Output came calls l m takes h = hears_still first asked l m takes.2 h
  hears_taking (line.Link chan) came calls l m takes h = record {
    links = ap (λ (x : LineState). x.links) takes.3 ∙ h.links;
    told = subst (All (WasTold asked)) (sym (ap (λ (x : LineState). x.kept) takes.3)) (takes_told asked chan came l.kept takes.0 takes.1 h.told);
  }
  hears_taking (line.Program slot chan) came calls l m takes h =
      let o = over_links slot came (record l { kept = takes.0 }) in
      record {
        links = ap (λ (x : LineState). x.links) takes.3 ∙ o.0 ∙ h.links;
        told = subst (All (WasTold asked)) (sym (ap (λ (x : LineState). x.kept) takes.3 ∙ o.1)) (takes_told asked chan came l.kept takes.0 takes.1 h.told);
      }
  hears_taking (line.Status slot chan) came calls l m takes h = record {
    links = ap (λ (x : LineState). x.links) takes.4 ∙ h.links;
    told = subst (All (WasTold asked)) (sym (ap (λ (x : LineState). x.kept) takes.4)) h.told;
  }

  hears_start : (slot : ℕ) (told : Started) (l m : LineState) → m ≡ after_start slot told l → Hears first asked l → Hears first asked m
  hears_start slot (started.Chan chan pid) l m is h = record {
    links = ap (λ (x : LineState). x.links) is ∙ h.links;
    told = subst (All (WasTold asked)) (sym (ap (λ (x : LineState). x.kept) is)) h.told;
  }
  hears_start slot started.Failed l m is h = hears_still first asked l m is h
  hears_start slot started.Memory l m is h = hears_still first asked l m is h

  hears_served : (words : ChildData → List (List ℕ)) (due : NeedData) (came : GotData) (calls : List SpawnCall) (l m : LineState) → Serves words due came calls l m → Hears first asked l → Hears first asked m
  hears_served words (needs.Take p) came calls l m s h = hears_taking (line_of l p) came calls l m s h
  hears_served words (needs.Give p bytes) came calls l m s h = hears_still first asked l m s.3 h
  hears_served words (needs.Start child) came calls l m s h = hears_start (slot_of child) s.0 l m s.3 h
  hears_served words (needs.File call) came calls l m s h = hears_still first asked l m s.1 h
  hears_served words (needs.Command bytes) came calls l m s h = absurd s
  hears_served words needs.Wait came calls l m s h = absurd s
  hears_served words (needs.Ended status) came calls l m s h = absurd s

-- more was asked
hears_more : (first : LineState) (before asked : List Posted) (old new : LineState) → new ≡ record old { kept = old.kept ++ brought asked } → Hears first before old → Hears first (before ++ asked) new
hears_more first before asked old new is h = record {
  links = ap (λ (x : LineState). x.links) is ∙ h.links;
  told = subst (All (WasTold (before ++ asked))) (sym (ap (λ (x : LineState). x.kept) is))
      (All-append (WasTold (before ++ asked)) old.kept (brought asked)
      (All-weaker (WasTold before) (WasTold (before ++ asked)) (λ piece told f. first_one IsFailedAnswer before asked (told f)) old.kept h.told)
      (All-weaker (WasTold asked) (WasTold (before ++ asked)) (λ piece told f. later_one IsFailedAnswer before asked (told f)) (brought asked) (brought_told asked)));
}

module _ (words : ChildData → List (List ℕ)) (first : LineState) (fresh : AreFresh first) where
  gathered : (step : Step) (before : List Step) (mid last : LineState) → Hears first (all_asked before) mid → (s : Shifts words mid step last) → Hears first (all_asked (step ∷ before)) s.gathered
  gathered step before mid last h s = hears_more first (all_asked before) (asked_in step) mid s.gathered s.gathers.keeps h

  heard : (turns : List Step) (last : LineState) → Leads words first turns last → Hears first (all_asked turns) last
  heard [] last leads = subst (Hears first []) (sym leads) (record { links = refl; told = subst (All (WasTold [])) (sym fresh.kept) (All-nil (WasTold [])) })
  heard (Acted asked event calls ∷ before) last leads =
      hears_served first (all_asked (Acted asked event calls ∷ before)) words event.due event.came calls leads.2.gathered last leads.2.moves
      (gathered (Acted asked event calls) before leads.0 last (heard before leads.0 leads.1) leads.2)
  heard (Looked asked read ready due ∷ before) last leads =
      hears_still first (all_asked (Looked asked read ready due ∷ before)) leads.2.gathered last leads.2.moves.1
      (gathered (Looked asked read ready due) before leads.0 last (heard before leads.0 leads.1) leads.2)

  -- a taking of a channel that failed
  by_line : (asked : List Posted) (it : Line) (came : GotData) (calls : List SpawnCall) (l m : LineState) → (¬ (it ≡ line.Missing)) → (¬ (it ≡ line.Output)) → ((slot chan : ℕ) → ¬ (it ≡ line.Status slot chan))
      → came ≡ got.Failed → TakesBy it came calls l m → All (WasTold asked) l.kept → HasOne IsFailedAnswer asked
  by_line asked line.Missing came calls l m some inner bytes is takes all = absurd (some refl)
  by_line asked line.Output came calls l m some inner bytes is takes all = absurd (inner refl)
  by_line asked (line.Link chan) came calls l m some inner bytes is takes all = taken_told asked chan l.kept takes.0 (subst (λ c. TakesOf chan c l.kept takes.0) is takes.1) all
  by_line asked (line.Program slot chan) came calls l m some inner bytes is takes all = taken_told asked chan l.kept takes.0 (subst (λ c. TakesOf chan c l.kept takes.0) is takes.1) all
  by_line asked (line.Status slot chan) came calls l m some inner bytes is takes all = absurd (bytes slot chan refl)

  failed_input : (asked : List Posted) (calls : List SpawnCall) (came : GotData) (l m : LineState) → Hears first asked l → came ≡ got.Failed → TakesBy (line_of l port.Input) came calls l m → HasOne IsFailedAnswer asked
  failed_input asked calls came l m h is takes =
      let linked : link_of l 0 ≡ Some fresh.input = ap (λ ls. get_or ls 0 None) h.links ∙ fresh.linked in
      let of : line_of l port.Input ≡ line.Link fresh.input = ap link_line linked in
      by_line asked (line.Link fresh.input) came calls l m (λ e. cc) (λ e. cc) (λ slot chan e. cc) is (subst (λ k. TakesBy k came calls l m) of takes) h.told

  some_line : (slot : ℕ) (o : Option ℕ) → is_some o ≡ true → (chan : ℕ) × (program_line slot o ≡ line.Program slot chan)
  some_line slot None is = absurd (cc)
  some_line slot (Some chan) is = (chan, refl)

  failed_program : (asked : List Posted) (slot : ℕ) (calls : List SpawnCall) (came : GotData) (l m : LineState) → Hears first asked l → is_some (program_of l slot) ≡ true → came ≡ got.Failed
      → TakesBy (line_of l (port.Program slot)) came calls l m → HasOne IsFailedAnswer asked
  failed_program asked slot calls came l m h runs is takes =
      let of = some_line slot (program_of l slot) runs in
      by_line asked (line.Program slot of.0) came calls l m (λ e. cc) (λ e. cc) (λ d chan e. cc) is (subst (λ k. TakesBy k came calls l m) of.1 takes) h.told

  pub failures_told : (turns : List Step) (last : LineState) → Leads words first turns last → HasFailedToHear (events_of turns) → HasOne IsFailedAnswer (all_asked turns)
  failures_told [] last leads fails = absurd fails
  failures_told (Looked asked read ready due ∷ before) last leads fails = first_one IsFailedAnswer (all_asked before) asked (failures_told before leads.0 leads.1 fails)
  failures_told (Acted asked event calls ∷ before) last leads fails = by fails.of where
    s : Shifts words leads.0 (Acted asked event calls) last
    s = leads.2

    h : Hears first (all_asked (Acted asked event calls ∷ before)) s.gathered
    h = gathered (Acted asked event calls) before leads.0 last (heard before leads.0 leads.1) s

    serves : (p : Port) → event.due ≡ needs.Take p → TakesBy (line_of s.gathered p) event.came calls s.gathered last
    serves p due = subst (λ d. Serves words d event.came calls s.gathered last) due s.moves

    by : (event.due ≡ needs.Take port.Input) ⊎ ((slot : ℕ) × (slot < 256) × (event.due ≡ needs.Take (port.Program slot)) × (has_program slot (events_of before) ≡ true))
        → HasOne IsFailedAnswer (all_asked (Acted asked event calls ∷ before))
    by (inl due) = failed_input (all_asked (Acted asked event calls ∷ before)) calls event.came s.gathered last h fails.came (serves port.Input due)
    by (inr (slot, small, due, runs)) =
        let some : is_some (program_of s.gathered slot) ≡ true
        = ap (λ (x : LineState). is_some (program_of x slot)) s.gathers.keeps ∙ programs_agree words first fresh before leads.0 slot leads.1 small ∙ runs in
        failed_program (all_asked (Acted asked event calls ∷ before)) slot calls event.came s.gathered last h some fails.came (serves (port.Program slot) due)
