-- In a play of fewer than 2^63 deeds each file that is made has a number below 2^64, and each injector a system's numbers.
use Rattle.std.proofs.Common.{◌≡◌, ⊎_elim, ℕ, ◌+◌, ◌<◌, ◌^◌, ◌-◌, min, List, [], ◌∷◌, ◌++◌, length, Bool, true, false, ◌&&◌, if◌then◌else◌, bytes_eq, Option, Some, None, refl, sym, ap, ◌∙◌, subst, arith}
use Rattle.std.specs.Prelude.{nat_lt}
use Rattle.std.specs.List.{list_all, sum_by}
use Rattle.std.proofs.lemmas.Bool.{lt-ltb}
use Rattle.std.proofs.lemmas.List.{length-append}
use Rattle.call_fs.specs.Disk.{Disk, IsUnused}
use Rattle.call_fs.specs.Free.{IsLeastFree}
use Rattle.call_fs.specs.Plan.{Plan, Takes, TakesNumber}
use Rattle.call_fs.specs.Program.{MayCome}
use Rattle.call_fs.specs.declared.calls.Answer.{Answer}
use Rattle.call_fs.specs.declared.calls.Answer.TheVariants as told
use Rattle.call_fs.specs.declared.past.ChildData.{ChildData}
use Rattle.call_fs.specs.declared.past.ChildData.TheVariants as child
use Rattle.call_fs.specs.declared.past.GotData.{GotData}
use Rattle.call_fs.specs.declared.past.GotData.TheVariants as came
use Rattle.call_fs.specs.declared.past.NeedData.{NeedData}
use Rattle.call_fs.specs.declared.past.NeedData.TheVariants as needs
use Rattle.call_fs.specs.declared.past.Own.{Own}
use Rattle.world_events.specs.Children.{Counts, child_of}
use Rattle.world_events.specs.Inputs.{bounce, forward, with_texts}
use Rattle.world_events.specs.declared.event.Program.{Program}
use Rattle.world_events.specs.declared.event.Program.TheVariants.{Cleaner, Injector}
use Rattle.mail_world.specs.History.{Actor, Event, Legal, call_act}
use Rattle.mail_world.specs.History.Event.{Act, Child, End, Start}
use Rattle.mail_world.specs.Readiness.{found_in}
use Rattle.mail_world.specs.World.{begun_with}
use Rattle.mail_world.proofs.Coming.{may_come}
use Rattle.scenario.specs.Deeds.{Deed, after, counts_in, history_of, next_pid, started}
use Rattle.scenario.specs.Deeds.Deed.{Came, Fed}
use Rattle.scenario.specs.Steps.{StepsTo, own_by}
use Rattle.scenario.specs.Steps.Outcome.{Happens}
use Rattle.scenario.proofs.FreeNames.{Goes}
use Rattle.scenario.proofs.Going.{goes_on}
use Rattle.scenario.proofs.StepKinds.{HasDone, IsNoFile, has_stepped}
use Rattle.scenario.proofs.StepKinds.HasDone.{Bears, Calls, Feeds, Finishes, Passes}
use Rattle.settle_law.specs.Well.{has_system_numbers}
use Rattle.settle_law.proofs.PlayedDeeds.{AllCame, CameSo, IsOfNone, PicksSmall}
use Rattle.settle_law.proofs.PlayedDeeds.CameSo.{Mails, Others, Steps}
use Rattle.settle_law.proofs.SmallNumbers.{both_true, not_taken}
use Rattle.settle_law.proofs.UsedNumbers.{Lacks, few_made, lacks_both, least_few, made, still_unused}
use Rattle.settle_law.proofs.UserNumbers.{forward_fits}

-- a file that is made has a number below 2^64
abbrev pub small_answer : Answer → Bool
small_answer (told.Created fd n) = nat_lt n (2 ^ 64)
small_answer other = true

abbrev pub came_small : GotData → Bool
came_small (came.Answered got) = small_answer got.answer
came_small other = true

abbrev pub is_numbered : Event → Bool
is_numbered (Start a program) = has_system_numbers program
is_numbered (Act a own wrote) = came_small own.came
is_numbered (Child parent own a program) = has_system_numbers program
is_numbered other = true

-- The input of a child changes nothing of that.

texts_numbered : (message envelope : List ℕ) (program : Program) → has_system_numbers (with_texts message envelope program) ≡ has_system_numbers program
texts_numbered message envelope (Injector args) = refl
texts_numbered message envelope other = refl

module _ (c message envelope : List ℕ) where
  begun_by : (parent : List ℕ) (own : Own) (a : List ℕ) (p : Program) (before : List Event) (same : Bool) → list_all is_numbered (begun_with c message envelope before) ≡ list_all is_numbered before
      → list_all is_numbered (if same then Child parent own a (with_texts message envelope p) ∷ before else (Child parent own a p ∷ begun_with c message envelope before)) ≡ list_all is_numbered (Child parent own a p ∷ before)
  begun_by parent own a p before true rest = ap (λ (t : Bool). t && list_all is_numbered before) (texts_numbered message envelope p)
  begun_by parent own a p before false rest = ap (λ (t : Bool). has_system_numbers p && t) rest

  numbered_begun : (h : List Event) → list_all is_numbered (begun_with c message envelope h) ≡ list_all is_numbered h
  numbered_begun [] = refl
  numbered_begun ((Child parent own a p) ∷ before) = begun_by parent own a p before (bytes_eq a c) (numbered_begun before)
  numbered_begun ((Start a p) ∷ before) = ap (λ (t : Bool). has_system_numbers p && t) (numbered_begun before)
  numbered_begun ((Act a own wrote) ∷ before) = ap (λ (t : Bool). came_small own.came && t) (numbered_begun before)
  numbered_begun (e ∷ before) = ap (λ (t : Bool). is_numbered e && t) (numbered_begun before)

  length_by : (parent : List ℕ) (own : Own) (a : List ℕ) (p : Program) (before : List Event) (same : Bool) → length (begun_with c message envelope before) ≡ length before
      → length (if same then Child parent own a (with_texts message envelope p) ∷ before else (Child parent own a p ∷ begun_with c message envelope before)) ≡ length (Child parent own a p ∷ before)
  length_by parent own a p before true rest = omega arith
  length_by parent own a p before false rest = omega (arith, rest)

  length_begun : (h : List Event) → length (begun_with c message envelope h) ≡ length h
  length_begun [] = refl
  length_begun ((Child parent own a p) ∷ before) = length_by parent own a p before (bytes_eq a c) (length_begun before)
  length_begun ((Start a p) ∷ before) = let rest = length_begun before in omega (arith, rest)
  length_begun ((Act a own wrote) ∷ before) = let rest = length_begun before in omega (arith, rest)
  length_begun (e ∷ before) = let rest = length_begun before in omega (arith, rest)

-- the first disk uses some numbers, which are fewer than 2^63
pub record UsesFew (d : Disk) : Type 0 where
  pub numbers : List ℕ
  pub used : (n : ℕ) → Lacks numbers n → IsUnused d n
  pub few : length numbers < 2 ^ 63

length_history : (h : List Deed) → length (history_of h) ≡ length h
length_history [] = refl
length_history ((Came e) ∷ before) = let rest = length_history before in omega (arith, rest)
length_history ((Fed a own c message envelope) ∷ before) =
    let rest = length_history before in
    let same = length_begun c message envelope (history_of before) in
    omega (arith, rest, same)

least_low : (n : ℕ) → min n (2 ^ 32 - 1) < 2 ^ 32
least_low n = omega arith

pid_fits : (h : List Deed) → next_pid h < 2 ^ 32
pid_fits h = least_low (77 + sum_by started h)

numbers_fit : (uid pid : ℕ) → uid < 2 ^ 32 → pid < 2 ^ 32 → (nat_lt uid (2 ^ 32) && nat_lt pid (2 ^ 32)) ≡ true
numbers_fit uid pid user process = both_true (nat_lt uid (2 ^ 32)) (nat_lt pid (2 ^ 32)) (lt-ltb uid (2 ^ 32) user) (lt-ltb pid (2 ^ 32) process)

-- what comes of what is no file call is no answer
unfiled_small : (due : NeedData) (got : GotData) → IsNoFile due → MayCome due got → came_small got ≡ true
unfiled_small (needs.File c) got none may = absurd none
unfiled_small (needs.Take p) (came.Answered got) none may = absurd (not_taken p got may)
unfiled_small due (came.Answered got) none may = absurd may
unfiled_small due got none may = refl

-- the program of a child, if there is one
abbrev program_told : Option (List ℕ × Program) → Program
program_told None = Cleaner 0
program_told (Some c) = c.1

module _ (d : Disk) (first : UsesFew d) (h : List Deed) (low : length h < 2 ^ 63) where
  -- the numbers that may be in use
  abbrev in_use : List ℕ
  in_use = made (history_of h) ++ first.numbers

  unused_then : (n : ℕ) → Lacks in_use n → IsUnused (after d h).disk n
  unused_then n lacks =
      let both = lacks_both (made (history_of h)) first.numbers n lacks in
      still_unused d (history_of h) n both.0 (first.used n both.1)

  least_small : (n : ℕ) → IsLeastFree (after d h).disk n → n < 2 ^ 64
  least_small n least =
      let top = least_few (after d h).disk in_use n unused_then least in
      let whole = length-append (made (history_of h)) first.numbers in
      let some = few_made (history_of h) in
      let long = length_history h in
      let few = first.few in
      omega (arith, top, whole, some, long, few, low)

  taken_small : (pick : Option ℕ) (n : ℕ) → ((m : ℕ) → pick ≡ Some m → m < 2 ^ 64) → TakesNumber (after d h).disk pick n → n < 2 ^ 64
  taken_small None n small takes = least_small n takes
  taken_small (Some m) n small takes = ⊎_elim
      (λ picked. let low = small m refl in let same = picked.1 in omega (arith, low, same))
      (λ least. least_small n least.1)
      takes

  answer_small : (pick : Option ℕ) (got : Answer) → ((m : ℕ) → pick ≡ Some m → m < 2 ^ 64) → Takes (after d h).disk pick got → small_answer got ≡ true
  answer_small pick (told.Created fd n) small takes = lt-ltb n (2 ^ 64) (taken_small pick n small takes.1)
  answer_small pick other small takes = refl

  -- the child of an actor
  child_numbered : (before : Counts) (a : List ℕ) (asked : ChildData) (pid now : ℕ) (c : List ℕ × Program) → pid < 2 ^ 32 → ((uid room : ℕ) → asked ≡ child.Forward uid room → uid < 2 ^ 32)
      → child_of before a asked pid now ≡ Some c → has_system_numbers c.1 ≡ true
  child_numbered before a (child.Bounce room) pid now c process user of =
      let same : Injector (bounce pid now) ≡ c.1 = ap program_told of in subst (λ (p : Program). has_system_numbers p ≡ true) same (numbers_fit 0 pid (omega arith) process)
  child_numbered before a (child.Forward uid room) pid now c process user of =
      let same : Injector (forward uid pid now) ≡ c.1 = ap program_told of in subst (λ (p : Program). has_system_numbers p ≡ true) same (numbers_fit uid pid (user uid room refl) process)
  child_numbered before a (child.Local slot words uid) pid now c process user of = subst (λ (p : Program). has_system_numbers p ≡ true) (ap program_told of) refl
  child_numbered before a (child.Remote slot domain sender recipient) pid now c process user of = absurd (cc)

  step_numbered : (plan : Plan) (a : List ℕ) (deed : Deed) → PicksSmall plan → Goes d h → StepsTo d h plan a (Happens deed)
      → list_all is_numbered (history_of h) ≡ true → list_all is_numbered (history_of (deed ∷ h)) ≡ true
  step_numbered plan a deed small so steps old =
      let one = has_stepped d h plan a deed steps in
      by_kind deed one.actor one.is (goes_on d h plan a deed so steps).legal one.did
    where
      more : (e : Event) → is_numbered e ≡ true → list_all is_numbered (e ∷ history_of h) ≡ true
      more e well = both_true (is_numbered e) (list_all is_numbered (history_of h)) well old

      by_kind : (deed : Deed) (x : Actor) → (after d h).actors a ≡ Some x → Legal d (history_of (deed ∷ h)) → HasDone plan (after d h) (next_pid h) (counts_in h) a x deed
          → list_all is_numbered (history_of (deed ∷ h)) ≡ true
      by_kind deed x is legal (Calls (c, got, next, given, same)) =
          subst (λ (deed : Deed). list_all is_numbered (history_of (deed ∷ h)) ≡ true) (sym same)
          (more (call_act a (after d h).now (found_in (after d h) a) c got 0) (answer_small plan.pick got.answer small given.takes))
      by_kind deed x is legal (Finishes (status, next, same)) = subst (λ (deed : Deed). list_all is_numbered (history_of (deed ∷ h)) ≡ true) (sym same)
          (more (End a (after d h).now (found_in (after d h) a) status) refl)
      by_kind deed x is legal (Passes p) =
          let may = subst (λ (deed : Deed). Legal d (history_of (deed ∷ h))) p.is legal in
          subst (λ (deed : Deed). list_all is_numbered (history_of (deed ∷ h)) ≡ true) (sym p.is)
          (more (Act a (own_by (after d h) a p.due p.came) 0) (unfiled_small p.due p.came p.no_file (may_come (after d h) a p.due p.came 0 may.1.came)))
      by_kind deed x is legal (Bears p) =
          subst (λ (deed : Deed). list_all is_numbered (history_of (deed ∷ h)) ≡ true) (sym p.is)
          (more (Child a (own_by (after d h) a (needs.Start p.asked) (came.Started (next_pid h))) p.child.0 p.child.1) (child_numbered (counts_in h) a p.asked (next_pid h) (after d h).now p.child (pid_fits h)
          (λ uid room asks. forward_fits d (history_of h) a x (after d h).now (found_in (after d h) a) uid room so.legal is (p.next ∙ ap needs.Start asks)) p.of))
      by_kind deed x is legal (Feeds p) =
          subst (λ (deed : Deed). list_all is_numbered (history_of (deed ∷ h)) ≡ true) (sym p.is)
          (numbered_begun p.child p.message p.envelope (history_of h) ∙ old)

  none_numbered : (e : Event) → IsOfNone e → is_numbered e ≡ true
  none_numbered (Start a program) of = absurd of
  none_numbered (Act a own wrote) of = absurd of
  none_numbered (Child parent own a program) of = absurd of
  none_numbered other of = refl

  more_numbered : (deed : Deed) → CameSo d h deed → list_all is_numbered (history_of h) ≡ true → list_all is_numbered (history_of (deed ∷ h)) ≡ true
  more_numbered deed (Steps plan a small so steps) old = step_numbered plan a deed small so steps old
  more_numbered deed (Mails name message envelope is) old =
      subst (λ (deed : Deed). list_all is_numbered (history_of (deed ∷ h)) ≡ true) (sym is)
      (both_true (nat_lt 1000 (2 ^ 32) && nat_lt (next_pid h) (2 ^ 32)) (list_all is_numbered (history_of h)) (numbers_fit 1000 (next_pid h) (omega arith) (pid_fits h)) old)
  more_numbered deed (Others e is of) old =
      subst (λ (deed : Deed). list_all is_numbered (history_of (deed ∷ h)) ≡ true) (sym is) (both_true (is_numbered e) (list_all is_numbered (history_of h)) (none_numbered e of) old)

pub all_numbered : (d : Disk) (h : List Deed) → UsesFew d → AllCame d h → length h < 2 ^ 63 → list_all is_numbered (history_of h) ≡ true
all_numbered d [] first came low = refl
all_numbered d (deed ∷ before) first came low =
    let less : length before < 2 ^ 63 = omega arith in
    more_numbered d first before less deed came.1 (all_numbered d before first came.0 less)
