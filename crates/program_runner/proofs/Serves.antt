-- Calls of a spawner, and what was taken, given and started by them.
use Rattle.std.proofs.Common.{◌≡◌, ℕ, ◌≤◌, List, [], ◌∷◌, ◌++◌, take, set, get_or, slice_get, length, position, zero, suc, ◌<◌, true, false, Option, Some, None, Result, Ok, Err, IfOk, refl, sym, ap, ◌∙◌, subst, inl, inr, ⊎_elim, arith}
use Rattle.call_fs.specs.declared.program.Port.{Port}
use Rattle.call_fs.specs.declared.program.Port.TheVariants as port
use Rattle.call_fs.specs.declared.past.ChildData.{ChildData}
use Rattle.call_fs.specs.declared.past.NeedData.{NeedData}
use Rattle.call_fs.specs.declared.past.NeedData.TheVariants.{Take, Give}
use Rattle.call_fs.specs.declared.past.NeedData.TheVariants as needs
use Rattle.call_fs.specs.declared.past.GotData.{GotData}
use Rattle.call_fs.specs.declared.past.GotData.TheVariants as got
use Rattle.call_fs.specs.Program.{MayCome, IsWithin}
use Rattle.mail_bytes.specs.Told.{Meets, Records, Rose}
use Rattle.outside.specs.Streams.{CountsFailures}
use Rattle.outside.specs.Streams.{Gives as Given}
use Rattle.outside.specs.Children.{SpawnCall, Starts}
use Rattle.outside.specs.Children.SpawnCall.{Start, Feed, Finish, AskStatus}
use Rattle.outside.specs.declared.posts.Waiting.{Waiting}
use Rattle.outside.specs.declared.posts.Waiting.TheVariants as waiting
use Rattle.std.specs.declared.alloc.AllocError.{AllocError}
use Rattle.outside.specs.declared.sink.Gave.{Gave}
use Rattle.outside.specs.declared.sink.Gave.TheVariants as gave
use Rattle.outside.specs.declared.spawner.Started.{Started}
use Rattle.outside.specs.declared.spawner.Started.TheVariants as started
use Rattle.outside.specs.declared.spawner.Status.{Status}
use Rattle.outside.specs.declared.spawner.Status.TheVariants as status
use Rattle.program_runner.specs.declared.line.Line.{Line}
use Rattle.program_runner.specs.declared.line.Line.TheVariants as line
use Rattle.program_runner.specs.declared.served.Served.{Served}
use Rattle.program_runner.specs.declared.served.Served.TheVariants as served
use Rattle.program_runner.specs.Outside.{AreKept, Gives}
use Rattle.program_runner.specs.Lines.{Fosters, LineState, Serves, StartsBy, after_start, after_taking, came_of_start, slot_of, HasToWait, TakesBy, TakesAs, IsQuiet, is_of, is_over, left_at, line_of, link_line, link_of, program_line, program_of, status_line, came_of_status, came_of_giving}
use Rattle.program_runner.specs.Serving.{BringsSome, ByDone, FitsPiece, IfDone, IsAsked, IsBegun, IsGiven, IsPossible, IsFront, IsServed, IsStatusTaken, IsTaken, IsTakenAs, IsTakenBy, PutsOut, Serving, SpawnerTold, Spawns, came_with, is_done, served_status}
use Rattle.program_runner.proofs.Deeds.{kept_more, kept_none, kept_one}

-- Calls of a spawner

pub asked_nothing : (s : SpawnerTold) → Spawns [] s s
asked_nothing s = record { told = kept_none s.calls; children = refl; counts = omega arith; cause = λ h. absurd h }

pub asked_status : (old new : SpawnerTold) (chan : ℕ) (told : Status) → new.children ≡ old.children → Records old.calls new.calls (AskStatus chan told)
    → CountsFailures old.faults new.faults (told ≡ status.Failed) → Spawns (AskStatus chan told ∷ []) old new
asked_status old new chan told same calls cause = record {
  told = kept_one old.calls new.calls (AskStatus chan told) calls;
  children = same;
  counts = cause.later;
  cause = ⊎_elim (λ h. cause.rose h) (λ h. absurd h);
}

pub asked_feed : (old new : SpawnerTold) (chan : ℕ) (bytes : List ℕ) (told : Gave) → new.children ≡ old.children → Records old.calls new.calls (Feed chan bytes told)
    → CountsFailures old.faults new.faults (told ≡ gave.Failed) → Spawns (Feed chan bytes told ∷ []) old new
asked_feed old new chan bytes told same calls cause = record {
  told = kept_one old.calls new.calls (Feed chan bytes told) calls;
  children = same;
  counts = cause.later;
  cause = ⊎_elim (λ h. cause.rose h) (λ h. absurd h);
}

pub asked_whole : (old mid new : SpawnerTold) (chan : ℕ) (bytes : List ℕ) (told : Gave) → mid.children ≡ old.children → Records old.calls mid.calls (Feed chan bytes told)
    → CountsFailures old.faults mid.faults (told ≡ gave.Failed) → new.children ≡ mid.children → Records mid.calls new.calls (Finish chan) → new.faults ≡ mid.faults
    → Spawns (Feed chan bytes told ∷ Finish chan ∷ []) old new
asked_whole old mid new chan bytes told same calls cause still more none = record {
  told = kept_more old.calls mid.calls new.calls (Feed chan bytes told ∷ []) (Finish chan ∷ []) (kept_one old.calls mid.calls (Feed chan bytes told) calls)
      (kept_one mid.calls new.calls (Finish chan) more);
  children = still ∙ same;
  counts = subst (λ n. old.faults ≤ n) (sym none) cause.later;
  cause = ⊎_elim (λ h. subst (λ n. Rose old.faults n) (sym none) (cause.rose h)) (⊎_elim (λ h. absurd h) (λ h. absurd h));
}

pub asked_start : (old new : SpawnerTold) (words : List (List ℕ)) (told : Started) → Starts told old.children new.children → Records old.calls new.calls (Start words told)
    → CountsFailures old.faults new.faults (told ≡ started.Failed) → Spawns (Start words told ∷ []) old new
asked_start old new words told starts calls cause = record {
  told = kept_one old.calls new.calls (Start words told) calls;
  children = (new.children, starts, refl);
  counts = cause.later;
  cause = ⊎_elim (λ h. cause.rose h) (λ h. absurd h);
}

-- a child was to be started
pub begun : (old new : SpawnerTold) (words : List (List ℕ)) (told : Started) → IsBegun words told old new → Serving (StartsBy words told) old new
begun old new words told b = ⊎_elim (λ calls. record { calls = Start words told ∷ []; done = inl refl; spawns = asked_start old new words told b.chan calls b.cause })
    (λ none. record { calls = []; done = inr (none.0, refl); spawns = record { told = unasked old.calls new.calls none.1; children = fostered told none.0 b.chan; counts = b.cause.later; cause = λ h. absurd h } }) b.calls
  where
    unasked : (x y : Option (List SpawnCall)) → y ≡ x → AreKept x y []
    unasked x y same = subst (λ t. AreKept x t []) (sym same) (kept_none x)

    fostered : (it : Started) → it ≡ started.Memory → Starts it old.children new.children → Fosters old.children [] new.children
    fostered it is starts = subst (λ t. Starts t old.children new.children) is starts

-- What a port is

-- a line of which bytes come, of this channel
abbrev pub IsChannel : Line → ℕ → Type 0
IsChannel (line.Link from) chan = from ≡ chan
IsChannel (line.Program slot from) chan = from ≡ chan
IsChannel other chan = ⊥

abbrev pub IsStatus : Line → ℕ → ℕ → Type 0
IsStatus (line.Status d from) slot chan = (d ≡ slot) × (from ≡ chan)
IsStatus other slot chan = ⊥

abbrev pub IsNoLine : Line → Type 0
IsNoLine line.Missing = Unit {0}
IsNoLine line.Output = Unit {0}
IsNoLine other = ⊥

link_no_status : (x : Option ℕ) (slot chan : ℕ) → IsStatus (link_line x) slot chan → ⊥
link_no_status None slot chan is = is
link_no_status (Some from) slot chan is = is

program_no_status : (d : ℕ) (x : Option ℕ) (slot chan : ℕ) → IsStatus (program_line d x) slot chan → ⊥
program_no_status d None slot chan is = is
program_no_status d (Some from) slot chan is = is

status_no_channel : (d : ℕ) (x : Option ℕ) (chan : ℕ) → IsChannel (status_line d x) chan → ⊥
status_no_channel d None chan is = is
status_no_channel d (Some from) chan is = is

pub failed_kind : (p : Port) → MayCome (Take p) got.Failed
failed_kind port.Input = tt
failed_kind port.Output = tt
failed_kind port.Clean = tt
failed_kind port.Lspawn = tt
failed_kind port.Rspawn = tt
failed_kind port.Todo = tt
failed_kind (port.Program d) = tt
failed_kind (port.Status d) = tt

pub bytes_kind : (l : LineState) (p : Port) (chan : ℕ) (bytes : List ℕ) → IsChannel (line_of l p) chan → MayCome (Take p) (got.Took bytes)
bytes_kind l port.Input chan bytes is = tt
bytes_kind l port.Output chan bytes is = tt
bytes_kind l port.Clean chan bytes is = tt
bytes_kind l port.Lspawn chan bytes is = tt
bytes_kind l port.Rspawn chan bytes is = tt
bytes_kind l port.Todo chan bytes is = tt
bytes_kind l (port.Program d) chan bytes is = tt
bytes_kind l (port.Status d) chan bytes is = absurd (status_no_channel d (program_of l d) chan is)

pub end_kind : (l : LineState) (p : Port) (chan : ℕ) → IsChannel (line_of l p) chan → MayCome (Take p) got.End
end_kind l port.Input chan is = tt
end_kind l port.Output chan is = tt
end_kind l port.Clean chan is = tt
end_kind l port.Lspawn chan is = tt
end_kind l port.Rspawn chan is = tt
end_kind l port.Todo chan is = tt
end_kind l (port.Program d) chan is = tt
end_kind l (port.Status d) chan is = absurd (status_no_channel d (program_of l d) chan is)

status_told : (d : ℕ) (told : Status) → MayCome (Take (port.Status d)) (came_of_status told)
status_told d (status.Ended code) = tt
status_told d status.Crashed = tt
status_told d status.Failed = tt

pub status_kind : (l : LineState) (p : Port) (slot chan : ℕ) (told : Status) → IsStatus (line_of l p) slot chan → MayCome (Take p) (came_of_status told)
status_kind l port.Input slot chan told is = absurd (link_no_status (link_of l 0) slot chan is)
status_kind l port.Output slot chan told is = absurd is
status_kind l port.Clean slot chan told is = absurd (link_no_status (link_of l 0) slot chan is)
status_kind l port.Lspawn slot chan told is = absurd (link_no_status (link_of l 1) slot chan is)
status_kind l port.Rspawn slot chan told is = absurd (link_no_status (link_of l 2) slot chan is)
status_kind l port.Todo slot chan told is = absurd (link_no_status (link_of l 3) slot chan is)
status_kind l (port.Program d) slot chan told is = absurd (program_no_status d (program_of l d) slot chan is)
status_kind l (port.Status d) slot chan told is = status_told d told

-- What was taken

module _ (l m : LineState) (p : Port) (s : SpawnerTold) where
  takes_link : (chan most : ℕ) (came : GotData) → IsTakenAs chan most came l m → TakesBy (line.Link chan) came [] l m
  takes_link chan most came (kept, takes, keeps, few, some) = (kept, takes, refl, keeps)

  took_as : (chan most : ℕ) (came : GotData) → line_of l p ≡ line.Link chan → IsTakenAs chan most came l m → Serving (λ calls. TakesAs (Take p) came calls l m) s s
  took_as chan most came is takes = record { calls = []; done = subst (λ x. TakesBy x came [] l m) (sym is) (takes_link chan most came takes); spawns = asked_nothing s }

  -- of a link
  pub took_of : (chan most : ℕ) (told : Served) (into : List ℕ) → line_of l p ≡ line.Link chan → IsTaken chan most told into l m → IsServed TakesAs (Take p) told (came_with told into) l m s s
  took_of chan most served.Nothing into is (none, same) = (subst (λ x. IsQuiet x l) (sym is) none, same, refl)
  took_of chan most (served.Took count) into is (fits, takes) = took_as chan most (got.Took (take count into)) is takes
  took_of chan most served.End into is takes = took_as chan most got.End is takes
  took_of chan most served.Failed into is takes = took_as chan most got.Failed is takes
  took_of chan most (served.Ended code) into is takes = absurd takes
  took_of chan most served.Crashed into is takes = absurd takes
  took_of chan most served.Gave into is takes = absurd takes
  took_of chan most (served.Started pid) into is takes = absurd takes
  took_of chan most served.Memory into is takes = absurd takes

  pub took_possible : (chan most : ℕ) (told : Served) (into : List ℕ) → IsChannel (line_of l p) chan → IsTaken chan most told into l m → IsPossible (Take p) most told (came_with told into)
  took_possible chan most served.Nothing into is takes = tt
  took_possible chan most (served.Took count) into is (fits, (kept, takes, keeps, few, some)) = (bytes_kind l p chan (take count into) is, few, some)
  took_possible chan most served.End into is takes = (end_kind l p chan is, tt, tt)
  took_possible chan most served.Failed into is takes = (failed_kind p, tt, tt)
  took_possible chan most (served.Ended code) into is takes = absurd takes
  took_possible chan most served.Crashed into is takes = absurd takes
  took_possible chan most served.Gave into is takes = absurd takes
  took_possible chan most (served.Started pid) into is takes = absurd takes
  took_possible chan most served.Memory into is takes = absurd takes

pub took_fits : (l m : LineState) (chan most : ℕ) (told : Served) (into : List ℕ) → IsTaken chan most told into l m → FitsPiece told
took_fits l m chan most served.Nothing into takes = tt
took_fits l m chan most (served.Took count) into (fits, takes) = fits
took_fits l m chan most served.End into takes = tt
took_fits l m chan most served.Failed into takes = tt
took_fits l m chan most (served.Ended code) into takes = absurd takes
took_fits l m chan most served.Crashed into takes = absurd takes
took_fits l m chan most served.Gave into takes = absurd takes
took_fits l m chan most (served.Started pid) into takes = absurd takes
took_fits l m chan most served.Memory into takes = absurd takes

-- of a program
module _ (l m : LineState) (p : Port) (s : SpawnerTold) (slot chan : ℕ) (is : line_of l p ≡ line.Program slot chan) where
  is_program : IsChannel (line_of l p) chan
  is_program = subst (λ x. IsChannel x chan) (sym is) refl

  took_by : (most : ℕ) (came : GotData) (mid : LineState) → IsTakenAs chan most came l mid → m ≡ after_taking slot came mid → Serving (λ calls. TakesAs (Take p) came calls l m) s s
  took_by most came mid (kept, takes, keeps, few, some) after = record {
    calls = [];
    done = subst (λ x. TakesBy x came [] l m) (sym is) (kept, takes, refl, after ∙ ap (after_taking slot came) keeps);
    spawns = asked_nothing s;
  }

  pub took_of_program : (most : ℕ) (told : Served) (into : List ℕ) → IsTakenBy slot chan most told into l m → IsServed TakesAs (Take p) told (came_with told into) l m s s
  took_of_program most served.Nothing into (mid, (none, same), after) = (subst (λ x. IsQuiet x l) (sym is) none, after ∙ same, refl)
  took_of_program most (served.Took count) into (mid, (fits, takes), after) = took_by most (got.Took (take count into)) mid takes after
  took_of_program most served.End into (mid, takes, after) = took_by most got.End mid takes after
  took_of_program most served.Failed into (mid, takes, after) = took_by most got.Failed mid takes after
  took_of_program most (served.Ended code) into (mid, takes, after) = absurd takes
  took_of_program most served.Crashed into (mid, takes, after) = absurd takes
  took_of_program most served.Gave into (mid, takes, after) = absurd takes
  took_of_program most (served.Started pid) into (mid, takes, after) = absurd takes
  took_of_program most served.Memory into (mid, takes, after) = absurd takes

  pub program_possible : (most : ℕ) (told : Served) (into : List ℕ) → IsTakenBy slot chan most told into l m → IsPossible (Take p) most told (came_with told into)
  program_possible most told into (mid, takes, after) = took_possible l mid p s chan most told into is_program takes

pub program_fits : (l m : LineState) (slot chan most : ℕ) (told : Served) (into : List ℕ) → IsTakenBy slot chan most told into l m → FitsPiece told
program_fits l m slot chan most told into (mid, takes, after) = took_fits l mid chan most told into takes

takes_none : (x : Line) (l m : LineState) → IsNoLine x → m ≡ l → TakesBy x got.Failed [] l m
takes_none line.Missing l m is same = (refl, refl, same)
takes_none line.Output l m is same = (refl, refl, same)
takes_none (line.Link from) l m is same = absurd is
takes_none (line.Program slot from) l m is same = absurd is
takes_none (line.Status slot from) l m is same = absurd is

-- of no line
pub took_none : (l : LineState) (p : Port) (s : SpawnerTold) → IsNoLine (line_of l p) → Serving (λ calls. TakesAs (Take p) got.Failed calls l l) s s
took_none l p s is = record { calls = []; done = takes_none (line_of l p) l l is refl; spawns = asked_nothing s }

came_of_served : (ended : Status) (into : List ℕ) → came_with (served_status ended) into ≡ came_of_status ended
came_of_served (status.Ended code) into = refl
came_of_served status.Crashed into = refl
came_of_served status.Failed into = refl

status_fits : (ended : Status) → FitsPiece (served_status ended)
status_fits (status.Ended code) = tt
status_fits status.Crashed = tt
status_fits status.Failed = tt

within_status : (most : ℕ) (ended : Status) → IsWithin most (came_of_status ended) × BringsSome most (came_of_status ended)
within_status most (status.Ended code) = (tt, tt)
within_status most status.Crashed = (tt, tt)
within_status most status.Failed = (tt, tt)

-- the first of these of what wasn't done, and the second of what was
by_done : (told : Served) (A B : Type 0) (P : Served → Type 0) → IfDone told A B → (A → P served.Nothing) → (B → is_done told ≡ true → P told) → P told
by_done served.Nothing A B P h quiet done = quiet h
by_done (served.Took count) A B P h quiet done = done h refl
by_done served.End A B P h quiet done = done h refl
by_done (served.Ended code) A B P h quiet done = done h refl
by_done served.Crashed A B P h quiet done = done h refl
by_done served.Gave A B P h quiet done = done h refl
by_done (served.Started pid) A B P h quiet done = done h refl
by_done served.Failed A B P h quiet done = done h refl
by_done served.Memory A B P h quiet done = done h refl

if_done : (told : Served) (A B : Type 0) → is_done told ≡ true → B → IfDone told A B
if_done told A B is h = subst (λ b. ByDone b A B) (sym is) h

status_done : (ended : Status) → is_done (served_status ended) ≡ true
status_done (status.Ended code) = refl
status_done status.Crashed = refl
status_done status.Failed = refl

pub status_asked : (slot chan : ℕ) (told : Served) (ended : Status) (l m : LineState) (old new : SpawnerTold) → is_over l slot chan ≡ true → told ≡ served_status ended
    → m ≡ record l { programs = set l.programs slot None } → Spawns (AskStatus chan ended ∷ []) old new → IsStatusTaken slot chan told l m old new
status_asked slot chan told ended l m old new over is gone spawns =
    if_done told ((is_over l slot chan ≡ false) × (m ≡ l) × (new ≡ old)) (IsAsked slot chan told l m old new) (ap is_done is ∙ status_done ended)
    (record { over = over; ended = ended; is = is; gone = gone; spawns = spawns })

-- of a status
module _ (l m : LineState) (p : Port) (slot chan : ℕ) (told : Served) (into : List ℕ) (old new : SpawnerTold) (is : line_of l p ≡ line.Status slot chan)
    (taken : IsStatusTaken slot chan told l m old new) where
  took_asked : IsAsked slot chan told l m old new → Serving (λ calls. TakesAs (Take p) (came_with told into) calls l m) old new
  took_asked a = record {
    calls = AskStatus chan a.ended ∷ [];
    done = subst (λ x. TakesBy x (came_with told into) (AskStatus chan a.ended ∷ []) l m) (sym is)
        (a.over, a.ended, ap (λ (t : Served). came_with t into) a.is ∙ came_of_served a.ended into, refl, a.gone);
    spawns = a.spawns;
  }

  pub took_status : IsServed TakesAs (Take p) told (came_with told into) l m old new
  took_status = by_done told ((is_over l slot chan ≡ false) × (m ≡ l) × (new ≡ old)) (IsAsked slot chan told l m old new)
      (λ t. IsServed TakesAs (Take p) t (came_with told into) l m old new) taken
      (λ q. (subst (λ x. IsQuiet x l) (sym is) q.0, q.1, q.2))
      (λ a done. if_done told (HasToWait (Take p) l × (m ≡ l) × (new ≡ old)) (Serving (λ calls. TakesAs (Take p) (came_with told into) calls l m) old new) done (took_asked a))

  asked_possible : (most : ℕ) → IsAsked slot chan told l m old new → MayCome (Take p) (came_with told into) × IsWithin most (came_with told into) × BringsSome most (came_with told into)
  asked_possible most a =
      let came : came_with told into ≡ came_of_status a.ended = ap (λ (t : Served). came_with t into) a.is ∙ came_of_served a.ended into in
      let within = within_status most a.ended in
      subst (λ (g : GotData). MayCome (Take p) g × IsWithin most g × BringsSome most g) (sym came)
      (status_kind l p slot chan a.ended (subst (λ x. IsStatus x slot chan) (sym is) (refl, refl)), within.0, within.1)

  pub status_possible : (most : ℕ) → IsPossible (Take p) most told (came_with told into)
  status_possible most = by_done told ((is_over l slot chan ≡ false) × (m ≡ l) × (new ≡ old)) (IsAsked slot chan told l m old new)
      (λ t. IsPossible (Take p) most t (came_with told into)) taken (λ q. tt)
      (λ a done. if_done told (Unit {0}) (MayCome (Take p) (came_with told into) × IsWithin most (came_with told into) × BringsSome most (came_with told into)) done (asked_possible most a))

  pub status_piece : FitsPiece told
  status_piece = by_done told ((is_over l slot chan ≡ false) × (m ≡ l) × (new ≡ old)) (IsAsked slot chan told l m old new)
      FitsPiece taken (λ q. tt) (λ a done. subst FitsPiece (sym a.is) (status_fits a.ended))

-- What was given

abbrev pub IsOutput : Line → Type 0
IsOutput line.Output = Unit {0}
IsOutput other = ⊥

abbrev pub IsBeside : Line → Type 0
IsBeside line.Output = ⊥
IsBeside other = Unit {0}

link_no_output : (x : Option ℕ) → IsOutput (link_line x) → ⊥
link_no_output None is = is
link_no_output (Some from) is = is

program_no_output : (d : ℕ) (x : Option ℕ) → IsOutput (program_line d x) → ⊥
program_no_output d None is = is
program_no_output d (Some from) is = is

status_no_output : (d : ℕ) (x : Option ℕ) → IsOutput (status_line d x) → ⊥
status_no_output d None is = is
status_no_output d (Some from) is = is

nothing_more : (l : List ℕ) → l ++ [] ≡ l
nothing_more [] = refl
nothing_more (x ∷ l) = ap (λ t. x ∷ t) (nothing_more l)

meets_same : {X : Type 0} (P : X → X → Type 0) → ((x : X) → P x x) → (a : Option X) → Meets a a P
meets_same P by None = tt
meets_same P by (Some x) = by x

gives_nothing : (l : LineState) (p : Port) (bytes : List ℕ) (told : Gave) → IsBeside (line_of l p) → Gives (Give p bytes) (came_of_giving told) []
gives_nothing l port.Input bytes gave.Done is = refl
gives_nothing l port.Input bytes gave.Failed is = refl
gives_nothing l port.Output bytes gave.Done is = absurd is
gives_nothing l port.Output bytes gave.Failed is = absurd is
gives_nothing l port.Clean bytes gave.Done is = refl
gives_nothing l port.Clean bytes gave.Failed is = refl
gives_nothing l port.Lspawn bytes gave.Done is = refl
gives_nothing l port.Lspawn bytes gave.Failed is = refl
gives_nothing l port.Rspawn bytes gave.Done is = refl
gives_nothing l port.Rspawn bytes gave.Failed is = refl
gives_nothing l port.Todo bytes gave.Done is = refl
gives_nothing l port.Todo bytes gave.Failed is = refl
gives_nothing l (port.Program d) bytes gave.Done is = refl
gives_nothing l (port.Program d) bytes gave.Failed is = refl
gives_nothing l (port.Status d) bytes gave.Done is = refl
gives_nothing l (port.Status d) bytes gave.Failed is = refl

no_output : (l : LineState) (p : Port) (bytes more : List ℕ) → IsBeside (line_of l p) → Give p bytes ≡ Give port.Output more → ⊥
no_output l port.Input bytes more beside is = cc
no_output l port.Output bytes more beside is = beside
no_output l port.Clean bytes more beside is = cc
no_output l port.Lspawn bytes more beside is = cc
no_output l port.Rspawn bytes more beside is = cc
no_output l port.Todo bytes more beside is = cc
no_output l (port.Program d) bytes more beside is = cc
no_output l (port.Status d) bytes more beside is = cc

-- beside the output
pub puts_nothing : (l : LineState) (p : Port) (bytes : List ℕ) (told : Gave) (o : Option (List ℕ)) (faults : ℕ) → IsBeside (line_of l p)
    → PutsOut (Give p bytes) (came_of_giving told) o o faults faults
puts_nothing l p bytes told o faults is = record {
  taken = meets_same _ (λ x. ([], gives_nothing l p bytes told is, sym (nothing_more x))) o;
  counts = omega arith;
  cause = λ more due. absurd (no_output l p bytes more is due);
}

puts : (bytes : List ℕ) (told : Gave) (first last : List ℕ) → Given told bytes first last → (given : List ℕ) × Gives (Give port.Output bytes) (came_of_giving told) given × (last ≡ first ++ given)
puts bytes gave.Done first last is = (bytes, refl, is)
puts bytes gave.Failed first last (k, few, is) = (take k bytes, (k, few, refl), is)

put_meets : (bytes : List ℕ) (told : Gave) (a b : Option (List ℕ)) → Meets a b (Given told bytes)
    → Meets a b (λ first last. (given : List ℕ) × Gives (Give port.Output bytes) (came_of_giving told) given × (last ≡ first ++ given))
put_meets bytes told None None m = tt
put_meets bytes told (Some x) (Some y) m = puts bytes told x y m
put_meets bytes told (Some x) None m = absurd m
put_meets bytes told None (Some y) m = absurd m

failed_giving : (told : Gave) → came_of_giving told ≡ got.Failed → told ≡ gave.Failed
failed_giving gave.Failed is = refl
failed_giving gave.Done is = absurd (cc)

puts_output : (bytes : List ℕ) (told : Gave) (a b : Option (List ℕ)) (before now : ℕ) → Meets a b (Given told bytes) → CountsFailures before now (told ≡ gave.Failed)
    → PutsOut (Give port.Output bytes) (came_of_giving told) a b before now
puts_output bytes told a b before now taken cause = record {
  taken = put_meets bytes told a b taken;
  counts = cause.later;
  cause = λ more due failed. cause.rose (failed_giving told failed);
}

-- to the output
pub puts_all : (l : LineState) (p : Port) (bytes : List ℕ) (told : Gave) (a b : Option (List ℕ)) (before now : ℕ) → IsOutput (line_of l p) → Meets a b (Given told bytes)
    → CountsFailures before now (told ≡ gave.Failed) → PutsOut (Give p bytes) (came_of_giving told) a b before now
puts_all l port.Input bytes told a b before now is taken cause = absurd (link_no_output (link_of l 0) is)
puts_all l port.Output bytes told a b before now is taken cause = puts_output bytes told a b before now taken cause
puts_all l port.Clean bytes told a b before now is taken cause = absurd (link_no_output (link_of l 0) is)
puts_all l port.Lspawn bytes told a b before now is taken cause = absurd (link_no_output (link_of l 1) is)
puts_all l port.Rspawn bytes told a b before now is taken cause = absurd (link_no_output (link_of l 2) is)
puts_all l port.Todo bytes told a b before now is taken cause = absurd (link_no_output (link_of l 3) is)
puts_all l (port.Program d) bytes told a b before now is taken cause = absurd (program_no_output d (program_of l d) is)
puts_all l (port.Status d) bytes told a b before now is taken cause = absurd (status_no_output d (program_of l d) is)

-- if it holds of what is Ok, so does this
pub if_ok : (r : Result Served AllocError) (P Q : Served → Type 0) → ((s : Served) → P s → Q s) → IfOk r P → IfOk r Q
if_ok (Ok s) P Q on h = on s h
if_ok (Err why) P Q on h = tt

-- What was taken of a piece

takes_front : (piece : Waiting) (chan place most : ℕ) (told : Served) (rest into : List ℕ) (l m : LineState) → position (is_of chan) l.kept ≡ Some place → slice_get l.kept place ≡ Some piece
    → IsFront piece most told rest into → BringsSome most (came_with told into) → m ≡ record l { kept = left_at l.kept place chan rest } → IsTaken chan most told into l m
takes_front (waiting.Bytes from bytes) chan place most told rest into l m found there (count, is, fits, few, parts) some keeps =
    subst (λ t. IsTaken chan most t into l m) (sym is)
    (fits, (left_at l.kept place chan rest, (place, from, rest, found, there ∙ ap (λ (b : List ℕ). Some (waiting.Bytes from b)) parts, refl), keeps, few, subst (λ (t : Served). BringsSome most (came_with t into)) is some))
takes_front (waiting.End from) chan place most told rest into l m found there (is, none) some keeps =
    subst (λ t. IsTaken chan most t into l m) (sym is) (left_at l.kept place chan [], (place, from, found, there, refl), keeps ∙ ap (λ (r : List ℕ). record l { kept = left_at l.kept place chan r }) none, tt, tt)
takes_front (waiting.Failed from) chan place most told rest into l m found there (is, none) some keeps =
    subst (λ t. IsTaken chan most t into l m) (sym is) (left_at l.kept place chan [], (place, from, found, there, refl), keeps ∙ ap (λ (r : List ℕ). record l { kept = left_at l.kept place chan r }) none, tt, tt)

get_there : {X : Type 0} (l : List X) (i : ℕ) (x : X) → i < length l → x ≡ get_or l i x → slice_get l i ≡ Some x
get_there [] i x inside is = absurd (omega (arith, inside))
get_there (y ∷ l) zero x inside is = ap Some (sym is)
get_there (y ∷ l) (suc i) x inside is = get_there l i x (omega (arith, inside)) is

pub took_front : (piece : Waiting) (chan place most : ℕ) (told : Served) (rest into : List ℕ) (l m : LineState) → position (is_of chan) l.kept ≡ Some place → place < length l.kept
    → piece ≡ get_or l.kept place piece → IsFront piece most told rest into → BringsSome most (came_with told into) → m ≡ record l { kept = left_at l.kept place chan rest } → IsTaken chan most told into l m
took_front piece chan place most told rest into l m found inside is front some keeps =
    takes_front piece chan place most told rest into l m found (get_there l.kept place piece inside is) front some keeps

-- What came of givings and starts

pub given_served : (words : ChildData → List (List ℕ)) (l : LineState) (p : Port) (bytes : List ℕ) (result told : Gave) (old new : SpawnerTold) → result ≡ told
    → IsGiven (line_of l p) bytes result old new → Serving (λ calls. Serves words (Give p bytes) (came_of_giving told) calls l l) old new
given_served words l p bytes result told old new is s = record { calls = s.calls; done = (result, ap came_of_giving (sym is), s.done, refl); spawns = s.spawns }

pub given_put : (p : Port) (bytes : List ℕ) (result told : Gave) (a b : Option (List ℕ)) (before now : ℕ) → result ≡ told
    → PutsOut (Give p bytes) (came_of_giving result) a b before now → PutsOut (Give p bytes) (came_of_giving told) a b before now
given_put p bytes result told a b before now is h = subst (λ t. PutsOut (Give p bytes) (came_of_giving t) a b before now) is h

pub start_served : (words : ChildData → List (List ℕ)) (l m : LineState) (child : ChildData) (result told : Started) (old new : SpawnerTold) → result ≡ told
    → m ≡ after_start (slot_of child) result l → Serving (StartsBy (words child) result) old new → Serving (λ calls. Serves words (needs.Start child) (came_of_start told) calls l m) old new
start_served words l m child result told old new is after s =
    record { calls = s.calls; done = (result, ap came_of_start (sym is), s.done, after); spawns = s.spawns }

pub start_put : (child : ChildData) (came : GotData) (o : Option (List ℕ)) (faults : ℕ) → PutsOut (needs.Start child) came o o faults faults
start_put child came o faults = record {
  taken = meets_same _ (λ x. ([], refl, sym (nothing_more x))) o;
  counts = omega arith;
  cause = λ more due. absurd (cc);
}

pub take_put : (p : Port) (came : GotData) (o : Option (List ℕ)) (faults : ℕ) → PutsOut (Take p) came o o faults faults
take_put p came o faults = record {
  taken = meets_same _ (λ x. ([], refl, sym (nothing_more x))) o;
  counts = omega arith;
  cause = λ more due. absurd (cc);
}

pub wait_put : (came : GotData) (o : Option (List ℕ)) (faults : ℕ) → PutsOut needs.Wait came o o faults faults
wait_put came o faults = record {
  taken = meets_same _ (λ x. ([], refl, sym (nothing_more x))) o;
  counts = omega arith;
  cause = λ more due. absurd (cc);
}

-- by what was due
pub served_due : (words : ChildData → List (List ℕ)) (due asked : NeedData) (told : Served) (came : GotData) (l m : LineState) (old new : SpawnerTold) → due ≡ asked
    → IsServed (Serves words) asked told came l m old new → IsServed (Serves words) due told came l m old new
served_due words due asked told came l m old new is h = subst (λ (d : NeedData). IsServed (Serves words) d told came l m old new) (sym is) h

pub put_due : (due asked : NeedData) (came : GotData) (a b : Option (List ℕ)) (before now : ℕ) → due ≡ asked → PutsOut asked came a b before now → PutsOut due came a b before now
put_due due asked came a b before now is h = subst (λ (d : NeedData). PutsOut d came a b before now) (sym is) h
