-- What an actor does with its pipes and slots is what the model says.
use Rattle.std.proofs.Common.{◌≡◌, ◌≢◌, ℕ, zero, suc, ◌<◌, ◌≤◌, List, length, take, set, Bool, true, false, Option, Some, None, refl, sym, ap, ◌∙◌, subst, ⊎_elim, arith, codes, bytes_eq, get_or}
use Rattle.std.specs.Prelude.{◌==◌, ◌||◌, not, if◌then◌else◌}
use Rattle.std.specs.List.{slice_get}
use Rattle.std.proofs.lemmas.Bool.{lt-ltb}
use Rattle.std.proofs.lemmas.List.{length-take}
use Rattle.std.proofs.lemmas.Option.{slice_get_within, get_or_from_slice_get}
use Rattle.call_fs.specs.Program.{IsKind, IsWithin}
use Rattle.call_fs.specs.declared.program.Port.{Port}
use Rattle.call_fs.specs.declared.program.Port.TheVariants as port
use Rattle.call_fs.specs.declared.past.ChildData.{ChildData}
use Rattle.call_fs.specs.declared.past.ChildData.TheVariants as child
use Rattle.call_fs.specs.declared.past.GotData.{GotData}
use Rattle.call_fs.specs.declared.past.GotData.TheVariants as got
use Rattle.call_fs.specs.declared.past.NeedData.TheVariants as needs
use Rattle.world_pipes.specs.declared.mouths.Mouths.{Mouths}
use Rattle.world_pipes.specs.declared.mouths.Slot.{Slot as Held}
use Rattle.world_pipes.specs.Mouths.{pipe_of, tenant_of, ended_of, runs_in, change_at, is_remote, HasPipe, IsSame}
use Rattle.world_pipes.specs.Pipes.{offered, left_by}
use Rattle.world_pipes.specs.Pipework.{Pipe, Pipework, Tenant, Mouth, fresh, given, taken, closed, mouth, is_ready, is_port, is_member, is_by, input_of, output, child_output, gives, put_pipe, pipework_after}
use Rattle.world_pipes.specs.Pipework.Tenant.{Runs, Remote}
use Rattle.world_pipes.specs.Commands.{command_exits}
use Rattle.world_pipes.specs.Wired.{seat, pipe_in, tenant_in, kept_at, IsOwnPort, AreWired, IsSlotOf, HasWires, slots_at}
use Rattle.world_pipes.specs.Exchanges.{Brings, BringsNone, Keep, AreAsBefore, Exchanges, IsStuck, HasExchanged, HasPiped, HasTaken, HasTakenBy, HasSlotFor, HasStarted, HasFreed, HasFreedBy, HasGivenTo, IsSameAt, GivesNoActor, SuitsPlace, is_in, slot_leads, leads}
use Rattle.world_pipes.proofs.Keeps.{all_stay, others_stay, keep_set, keep_same, before_same}
use Rattle.world_pipes.proofs.Lists.{some_within}
use Rattle.world_pipes.proofs.Members.{whether, other_than, other_text}
use Rattle.world_pipes.proofs.Seats.{by_seat}
use Rattle.world_pipes.proofs.Wires.{wired_same, wired_pipe, wired_program, wired_both}

-- the pipes and slots of one actor

pub own_pipe : (wires : List ℕ → Option ℕ) (mouths : List Mouths) (w : Pipework) (a : List ℕ) (i : ℕ) (m : Mouths) → AreWired wires mouths w → wires a ≡ Some i → slice_get mouths i ≡ Some m
    → (p : Port) → IsOwnPort i p → w.pipes a p ≡ pipe_of m p
own_pipe wires mouths w a i m wired at is p own = wired.pipes a i p at own ∙ ap (λ (o : Option Mouths). pipe_in o p) is

pub own_tenant : (wires : List ℕ → Option ℕ) (mouths : List Mouths) (w : Pipework) (a : List ℕ) (i : ℕ) (m : Mouths) → AreWired wires mouths w → wires a ≡ Some i → slice_get mouths i ≡ Some m
    → (d : ℕ) → w.programs a d ≡ tenant_of m d
own_tenant wires mouths w a i m wired at is d =
    wired.programs a d ∙ ap (λ (o : Option ℕ). tenant_in (kept_at o mouths) d) at ∙ ap (λ (o : Option Mouths). tenant_in o d) is

-- who runs in a slot of that actor, at its place
pub tenant_at : (wires : List ℕ → Option ℕ) (mouths : List Mouths) (w : Pipework) (a : List ℕ) (i : ℕ) → AreWired wires mouths w → wires a ≡ Some i → (d : ℕ) → w.programs a d ≡ tenant_in (slice_get mouths i) d
tenant_at wires mouths w a i wired at d = wired.programs a d ∙ ap (λ (o : Option ℕ). tenant_in (kept_at o mouths) d) at

-- the pipes are as before, if those at one place are
pub as_before : (mouths : List Mouths) (i : ℕ) (m n : Mouths) → slice_get mouths i ≡ Some m → IsSame m n → AreAsBefore mouths (set mouths i n)
as_before mouths i m n is same = record {
  keep = keep_set mouths i m n is same.slots (all_stay m n same.tenants same.ended);
  wired = λ wires w wired.
      let own = wired.owned i (slice_get_within mouths i m is) in
      wired_same wires mouths own.0 i m n own.1 is w wired same.pipes same.tenants;
}

same_if : (t : Bool) (pipe : Pipe) → (if t then pipe else pipe) ≡ pipe
same_if true pipe = refl
same_if false pipe = refl

-- A taking

took_is : (w : Pipework) (a : List ℕ) (p : Port) (bytes : List ℕ)
    → pipework_after w a (needs.Take p) (got.Took bytes) 0 ≡ record { pipes = put_pipe w.pipes (Some (mouth a p)) (taken bytes); programs = w.programs; slots = w.slots }
took_is w a port.Input bytes = refl
took_is w a port.Output bytes = refl
took_is w a port.Clean bytes = refl
took_is w a port.Lspawn bytes = refl
took_is w a port.Rspawn bytes = refl
took_is w a port.Todo bytes = refl
took_is w a (port.Program d) bytes = refl
took_is w a (port.Status d) bytes = refl

end_is : (w : Pipework) (a : List ℕ) (p : Port) → pipework_after w a (needs.Take p) got.End 0 ≡ w
end_is w a port.Input = refl
end_is w a port.Output = refl
end_is w a port.Clean = refl
end_is w a port.Lspawn = refl
end_is w a port.Rspawn = refl
end_is w a port.Todo = refl
end_is w a (port.Program d) = refl
end_is w a (port.Status d) = refl

-- a port of which a taking is no status
abbrev pub IsPipe : Port → Type 0
IsPipe (port.Status d) = ⊥
IsPipe other = Unit {0}

brings_by : (w : Pipework) (pid most : ℕ) (a : List ℕ) (p : Port) (came : GotData) → IsPipe p → offered most (w.pipes a p) ≡ Some came → Brings w pid most a (needs.Take p) came
brings_by w pid most a port.Input came pipe is = is
brings_by w pid most a port.Output came pipe is = is
brings_by w pid most a port.Clean came pipe is = is
brings_by w pid most a port.Lspawn came pipe is = is
brings_by w pid most a port.Rspawn came pipe is = is
brings_by w pid most a port.Todo came pipe is = is
brings_by w pid most a (port.Program d) came pipe is = is
brings_by w pid most a (port.Status d) came pipe is = absurd pipe

-- its bytes and its end are of the kind of a taking
taken_kind : (p : Port) (bytes : List ℕ) → IsPipe p → IsKind (needs.Take p) got.End × IsKind (needs.Take p) (got.Took bytes)
taken_kind port.Input bytes pipe = (tt, tt)
taken_kind port.Output bytes pipe = (tt, tt)
taken_kind port.Clean bytes pipe = (tt, tt)
taken_kind port.Lspawn bytes pipe = (tt, tt)
taken_kind port.Rspawn bytes pipe = (tt, tt)
taken_kind port.Todo bytes pipe = (tt, tt)
taken_kind (port.Program d) bytes pipe = (tt, tt)
taken_kind (port.Status d) bytes pipe = absurd pipe

-- what is offered is the end, or bytes, of which there are few enough
offer_kind : (t shut : Bool) (n : ℕ) (bytes : List ℕ) (came : GotData) (P : GotData → Type 0) → P got.End → P (got.Took (take n bytes))
    → (if t then (if shut then Some got.End else None) else Some (got.Took (take n bytes))) ≡ Some came → P came
offer_kind true true n bytes came P end took is = let same : got.End ≡ came = cc in subst P same end
offer_kind true false n bytes came P end took is = absurd (cc)
offer_kind false shut n bytes came P end took is = let same : got.Took (take n bytes) ≡ came = cc in subst P same took

pub offered_is : (n : ℕ) (pipe : Pipe) (came : GotData) (P : GotData → Type 0) → P got.End → P (got.Took (take n pipe.bytes)) → offered n pipe ≡ Some came → P came
offered_is n pipe came P end took is = offer_kind (length pipe.bytes == 0) pipe.shut n pipe.bytes came P end took is

few_taken : (n : ℕ) (bytes : List ℕ) → length (take n bytes) ≤ n
few_taken n bytes = omega (arith, length-take n bytes)

none_by : (w : Pipework) (a : List ℕ) (p : Port) → IsPipe p → is_ready (w.pipes a p) ≡ false → BringsNone w a (needs.Take p)
none_by w a port.Input pipe is = is
none_by w a port.Output pipe is = is
none_by w a port.Clean pipe is = is
none_by w a port.Lspawn pipe is = is
none_by w a port.Rspawn pipe is = is
none_by w a port.Todo pipe is = is
none_by w a (port.Program d) pipe is = is
none_by w a (port.Status d) pipe is = absurd pipe

-- nothing but bytes and the end is offered
never_offered : (t shut : Bool) (took came : GotData) → came ≢ got.End → came ≢ took → Some came ≡ (if t then (if shut then Some got.End else None) else Some took) → ⊥
never_offered true true took came end other is = let same : came ≡ got.End = cc in end same
never_offered true false took came end other is = cc
never_offered false shut took came end other is = let same : came ≡ took = cc in other same

-- nothing is offered where nothing is ready
none_offered : (t shut : Bool) (took : GotData) → (if t then (if shut then Some got.End else None) else Some took) ≡ None → (not t || shut) ≡ false
none_offered true true took is = absurd cc
none_offered true false took is = refl
none_offered false shut took is = absurd cc

module _ (mouths : List Mouths) (a : List ℕ) (slot : Option (ℕ × ℕ)) (i : ℕ) (m n : Mouths) (is : slice_get mouths i ≡ Some m) where
  taken_wired : (p : Port) (wires : List ℕ → Option ℕ) (w : Pipework) (came : GotData) (most : ℕ) → Some came ≡ offered most (pipe_of m p) → HasPiped m n p (left_by (Some came)) → AreWired wires mouths w
      → wires a ≡ Some i → AreWired wires (set mouths i n) (pipework_after w a (needs.Take p) came 0)
  taken_wired p wires w (got.Took bytes) most offer piped wired at =
      subst (AreWired wires (set mouths i n)) (sym (took_is w a p bytes)) (wired_pipe wires mouths a i m n at is w wired p (taken bytes) piped.pipes piped.tenants)
  taken_wired p wires w got.End most offer piped wired at =
      subst (AreWired wires (set mouths i n)) (sym (end_is w a p))
      (wired_same wires mouths a i m n at is w wired (λ q. piped.pipes q ∙ same_if (is_port q p) (pipe_of m q)) piped.tenants)
  taken_wired p wires w (got.Answered told) most offer piped wired at = absurd (never_offered (length (pipe_of m p).bytes == 0) (pipe_of m p).shut _ _ (λ e. cc) (λ e. cc) offer)
  taken_wired p wires w (got.Ended status) most offer piped wired at = absurd (never_offered (length (pipe_of m p).bytes == 0) (pipe_of m p).shut _ _ (λ e. cc) (λ e. cc) offer)
  taken_wired p wires w got.Crashed most offer piped wired at = absurd (never_offered (length (pipe_of m p).bytes == 0) (pipe_of m p).shut _ _ (λ e. cc) (λ e. cc) offer)
  taken_wired p wires w got.Gave most offer piped wired at = absurd (never_offered (length (pipe_of m p).bytes == 0) (pipe_of m p).shut _ _ (λ e. cc) (λ e. cc) offer)
  taken_wired p wires w (got.Started q) most offer piped wired at = absurd (never_offered (length (pipe_of m p).bytes == 0) (pipe_of m p).shut _ _ (λ e. cc) (λ e. cc) offer)
  taken_wired p wires w got.Failed most offer piped wired at = absurd (never_offered (length (pipe_of m p).bytes == 0) (pipe_of m p).shut _ _ (λ e. cc) (λ e. cc) offer)
  taken_wired p wires w got.Memory most offer piped wired at = absurd (never_offered (length (pipe_of m p).bytes == 0) (pipe_of m p).shut _ _ (λ e. cc) (λ e. cc) offer)

  pub take_exchanges : (p : Port) (pid most : ℕ) (came : GotData) → IsPipe p → IsOwnPort i p → HasTaken m n p most (Some came) → Exchanges (Some i) slot mouths (set mouths i n) pid most a (needs.Take p) came
  take_exchanges p pid most came pipe own took =
      let kinds = taken_kind p (take most (pipe_of m p).bytes) pipe in
      record {
        keep = keep_set mouths i m n is took.1.slots (all_stay m n took.1.tenants took.1.ended);
        kind = offered_is most (pipe_of m p) came (IsKind (needs.Take p)) kinds.0 kinds.1 (sym took.0);
        within = offered_is most (pipe_of m p) came (IsWithin most) tt (few_taken most (pipe_of m p).bytes) (sym took.0);
        brings = λ wires w has. brings_by w pid most a p came pipe (ap (offered most) (own_pipe wires mouths w a i m has.wired has.at is p own) ∙ sym took.0);
        wired = λ wires w has. taken_wired p wires w came most took.0 took.1 has.wired has.at;
      }

  pub take_stuck : (p : Port) (most : ℕ) → IsPipe p → IsOwnPort i p → HasTaken m n p most None → IsStuck (Some i) slot mouths (set mouths i n) a (needs.Take p)
  take_stuck p most pipe own took = record {
    same = as_before mouths i m n is (record { pipes = λ q. took.1.pipes q ∙ same_if (is_port q p) (pipe_of m q); tenants = took.1.tenants; ended = took.1.ended; slots = took.1.slots });
    none = λ wires w has. none_by w a p pipe (ap is_ready (own_pipe wires mouths w a i m has.wired has.at is p own) ∙ none_offered (length (pipe_of m p).bytes == 0) (pipe_of m p).shut _ (sym took.0));
  }

  pub take_done : (p : Port) (pid most : ℕ) (came : Option GotData) → IsPipe p → IsOwnPort i p → HasTaken m n p most came → HasExchanged (Some i) slot mouths (set mouths i n) pid most a (needs.Take p) came
  take_done p pid most None pipe own took = take_stuck p most pipe own took
  take_done p pid most (Some came) pipe own took = take_exchanges p pid most came pipe own took

  -- the taking of a status

  pub status_exchanges : (d pid most : ℕ) → HasFreed m n d → Exchanges (Some i) slot mouths (set mouths i n) pid most a (needs.Take (port.Status d)) (got.Ended 0)
  status_exchanges d pid most freed = record {
    keep = keep_set mouths i m n is freed.slots (others_stay m n d None false (λ c e. cc) freed.tenants freed.ended);
    kind = tt;
    within = tt;
    brings = λ wires w has. (own_tenant wires mouths w a i m has.wired has.at is d ∙ freed.runs, refl);
    wired = λ wires w has. wired_program wires mouths a i m n has.at is w has.wired d None (λ c e. cc) freed.tenants freed.pipes;
  }

  pub status_stuck : (d : ℕ) → IsSame m n → is_remote true (tenant_of m d) ≡ false → IsStuck (Some i) slot mouths (set mouths i n) a (needs.Take (port.Status d))
  status_stuck d same none = record {
    same = as_before mouths i m n is same;
    none = λ wires w has. ap (is_remote true) (own_tenant wires mouths w a i m has.wired has.at is d) ∙ none;
  }

  pub status_done : (d pid most : ℕ) (came : Option GotData) → HasFreedBy m n d came → HasExchanged (Some i) slot mouths (set mouths i n) pid most a (needs.Take (port.Status d)) came
  status_done d pid most None freed = status_stuck d freed.0 freed.1
  status_done d pid most (Some came) freed =
      subst (λ (came : GotData). Exchanges (Some i) slot mouths (set mouths i n) pid most a (needs.Take (port.Status d)) came) (sym freed.1) (status_exchanges d pid most freed.0)

  -- by any port
  pub taken_by : (p : Port) (pid most : ℕ) (came : Option GotData) → IsOwnPort i p → HasTakenBy m n p most came
      → HasExchanged (Some i) slot mouths (set mouths i n) pid most a (needs.Take p) came
  taken_by (port.Status d) pid most came own freed = status_done d pid most came freed
  taken_by port.Input pid most came own took = take_done port.Input pid most came tt own took
  taken_by port.Output pid most came own took = take_done port.Output pid most came tt own took
  taken_by port.Clean pid most came own took = take_done port.Clean pid most came tt own took
  taken_by port.Lspawn pid most came own took = take_done port.Lspawn pid most came tt own took
  taken_by port.Rspawn pid most came own took = take_done port.Rspawn pid most came tt own took
  taken_by port.Todo pid most came own took = take_done port.Todo pid most came tt own took
  taken_by (port.Program d) pid most came own took = take_done (port.Program d) pid most came tt own took

  -- the start of a remote program
  start_exchanges : (d : ℕ) (domain sender recipient : List ℕ) (pid most : ℕ)
      → ((p : Port) → pipe_of n p ≡ change_at (port.Program d) (λ _. fresh) (pipe_of m) p) → ((e : ℕ) → tenant_of n e ≡ (if e == d then Some (Remote false) else tenant_of m e))
      → ((e : ℕ) → ended_of n e ≡ (if e == d then false else ended_of m e)) → length n.slots.items ≡ length m.slots.items
      → Exchanges (Some i) slot mouths (set mouths i n) pid most a (needs.Start (child.Remote d domain sender recipient)) (got.Started pid)
  start_exchanges d domain sender recipient pid most moved starts ended slots = record {
    keep = keep_set mouths i m n is slots (others_stay m n d (Some (Remote false)) false (λ c e. cc) starts ended);
    kind = tt;
    within = tt;
    brings = λ wires w has. refl;
    wired = λ wires w has. wired_both wires mouths a i m n has.at is w has.wired (port.Program d) (λ _. fresh) d (Some (Remote false)) (λ c e. cc) moved starts;
  }

  -- of a delivery or a forward, which no world starts yet
  pub started_by : (asked : ChildData) (pid most : ℕ) (came : GotData) → SuitsPlace i (needs.Start asked) → HasStarted m n pid asked came
      → Exchanges (Some i) slot mouths (set mouths i n) pid most a (needs.Start asked) came
  started_by (child.Bounce room) pid most came starts none = absurd starts
  started_by (child.Forward uid room) pid most came starts none = absurd starts
  started_by (child.Local d words uid) pid most came starts none = absurd starts
  started_by (child.Remote d domain sender recipient) pid most came starts begun =
      subst (λ (came : GotData). Exchanges (Some i) slot mouths (set mouths i n) pid most a (needs.Start (child.Remote d domain sender recipient)) came) (sym begun.1)
      (start_exchanges d domain sender recipient pid most begun.0.pipes begun.0.tenants begun.0.ended begun.0.slots)

-- A command

pub command_exchanges : (mouths : List Mouths) (a : List ℕ) (slot : Option (ℕ × ℕ)) (i pid most : ℕ) (command : List ℕ)
    → Exchanges (Some i) slot mouths mouths pid most a (needs.Command command) (got.Ended (command_exits command))
command_exchanges mouths a slot i pid most command = record {
  keep = keep_same mouths mouths refl;
  kind = tt;
  within = tt;
  brings = λ wires w has. refl;
  wired = λ wires w has. has.wired;
}

-- and who waits
pub wait_stuck : (mouths : List Mouths) (a : List ℕ) (slot : Option (ℕ × ℕ)) (i : ℕ) → IsStuck (Some i) slot mouths mouths a needs.Wait
wait_stuck mouths a slot i = record { same = before_same mouths mouths refl; none = λ wires w has. tt }

-- A giving

-- in the model, bytes are given to the pipe of whoever has its pipes at that place, or to none
abbrev IsGivenAt : (List ℕ → Option ℕ) → Pipework → List ℕ → Port → List ℕ → Option (ℕ × Port) → Type 0
IsGivenAt wires w a p bytes None = gives w a p bytes ≡ w.pipes
IsGivenAt wires w a p bytes (Some to) = (b : List ℕ) × (wires b ≡ Some to.0) × (gives w a p bytes ≡ put_pipe w.pipes (Some (mouth b to.1)) (given bytes))

no_input : (o : Option Tenant) → ((b : List ℕ) → o ≡ Some (Runs b) → ⊥) → input_of o ≡ None
no_input None none = refl
no_input (Some (Runs b)) none = absurd (none b refl)
no_input (Some (Remote reported)) none = refl

-- the output of who is no member is its slot's
child_out : (w : Pipework) (a : List ℕ) → is_member a ≡ false → output w a ≡ child_output w a (w.slots a)
child_out w a other =
    let no : (b : List ℕ) → is_member b ≡ true → bytes_eq a b ≡ false = λ b is. other_text a b (other_than a b other is) in
    ap (λ (t : Bool). if t then Some (mouth (codes "sender") port.Clean) else (if bytes_eq a (codes "lspawn") then Some (mouth (codes "sender") port.Lspawn)
    else (if bytes_eq a (codes "rspawn") then Some (mouth (codes "sender") port.Rspawn) else child_output w a (w.slots a)))) (no (codes "clean") refl)
    ∙ ap (λ (t : Bool). if t then Some (mouth (codes "sender") port.Lspawn) else (if bytes_eq a (codes "rspawn") then Some (mouth (codes "sender") port.Rspawn) else child_output w a (w.slots a)))
    (no (codes "lspawn") refl)
    ∙ ap (λ (t : Bool). if t then Some (mouth (codes "sender") port.Rspawn) else child_output w a (w.slots a)) (no (codes "rspawn") refl)

module _ (wires : List ℕ → Option ℕ) (mouths : List Mouths) (w : Pipework) (a bytes : List ℕ) (wired : AreWired wires mouths w) where
  to_none : (o : Option Mouth) → output w a ≡ o → gives w a port.Output bytes ≡ put_pipe w.pipes o (given bytes)
  to_none o is = ap (λ (o : Option Mouth). put_pipe w.pipes o (given bytes)) is

  -- to its slot, while it runs there
  slot_given : (slot : Option (ℕ × ℕ)) → is_member a ≡ false → IsSlotOf wires (w.slots a) slot → IsGivenAt wires w a port.Output bytes (slot_leads mouths slot a)
  slot_given None other none = to_none None (child_out w a other ∙ ap (child_output w a) none)
  slot_given (Some s) other of = by_test (is_in mouths s a) refl where
    test : (t : Bool) → is_in mouths s a ≡ t → output w a ≡ (if t then Some (mouth of.0 (port.Program s.1)) else None)
    test t is =
        child_out w a other ∙ ap (child_output w a) of.1
        ∙ ap (λ (t : Bool). if t then Some (mouth of.0 (port.Program s.1)) else None) (ap (is_by a) (tenant_at wires mouths w of.0 s.0 wired of.2 s.1) ∙ is)

    by_test : (t : Bool) → is_in mouths s a ≡ t → IsGivenAt wires w a port.Output bytes (if t then Some (s.0, port.Program s.1) else None)
    by_test true is = (of.0, of.2, to_none (Some (mouth of.0 (port.Program s.1))) (test true is))
    by_test false is = to_none None (test false is)

  member_given : (i : ℕ) (slot : Option (ℕ × ℕ)) → seat a ≡ Some i → IsGivenAt wires w a port.Output bytes (leads mouths i slot a port.Output)
  member_given i slot at =
      by_seat (λ (a : List ℕ) (i : ℕ). IsGivenAt wires w a port.Output bytes (leads mouths i slot a port.Output))
      (ap (λ (o : Option Mouth). put_pipe w.pipes o (given bytes)) (ap (child_output w (codes "sender")) (wired.members (codes "sender") refl)))
      (codes "sender", wired.seats (codes "sender") refl, refl) (codes "sender", wired.seats (codes "sender") refl, refl) (codes "sender", wired.seats (codes "sender") refl, refl) a i at

  other_given : (i : ℕ) (slot : Option (ℕ × ℕ)) → 4 ≤ i → is_member a ≡ false → IsSlotOf wires (w.slots a) slot → IsGivenAt wires w a port.Output bytes (leads mouths i slot a port.Output)
  other_given zero slot high other of = absurd (omega (arith, high))
  other_given (suc zero) slot high other of = absurd (omega (arith, high))
  other_given (suc (suc zero)) slot high other of = absurd (omega (arith, high))
  other_given (suc (suc (suc zero))) slot high other of = absurd (omega (arith, high))
  other_given (suc (suc (suc (suc i)))) slot high other of = slot_given slot other of

  gives_leads : (i : ℕ) (slot : Option (ℕ × ℕ)) → wires a ≡ Some i → IsSlotOf wires (w.slots a) slot → (p : Port) → ((d : ℕ) → p ≡ port.Program d → (b : List ℕ) → w.programs a d ≡ Some (Runs b) → ⊥)
      → IsGivenAt wires w a p bytes (leads mouths i slot a p)
  gives_leads i slot at of port.Input alone = refl
  gives_leads i slot at of port.Output alone = ⊎_elim
      (λ member. member_given i slot (sym (wired.seats a member) ∙ at))
      (λ other. other_given i slot (wired.others a i at other).high other of)
      (whether (is_member a))
  gives_leads i slot at of port.Clean alone = (codes "clean", wired.seats (codes "clean") refl, refl)
  gives_leads i slot at of port.Lspawn alone = (codes "lspawn", wired.seats (codes "lspawn") refl, refl)
  gives_leads i slot at of port.Rspawn alone = (codes "rspawn", wired.seats (codes "rspawn") refl, refl)
  gives_leads i slot at of port.Todo alone = refl
  gives_leads i slot at of (port.Program d) alone = ap (λ (o : Option Mouth). put_pipe w.pipes o (λ pipe. closed (given bytes pipe))) (no_input (w.programs a d) (alone d refl))
  gives_leads i slot at of (port.Status d) alone = refl

-- what is given to a slot is given to no actor in the model either
alone_in : (wires : List ℕ → Option ℕ) (mouths : List Mouths) (w : Pipework) (a : List ℕ) (i : ℕ) (p : Port) (bytes : List ℕ) → AreWired wires mouths w → wires a ≡ Some i → GivesNoActor mouths i (needs.Give p bytes)
    → (d : ℕ) → p ≡ port.Program d → (b : List ℕ) → w.programs a d ≡ Some (Runs b) → ⊥
alone_in wires mouths w a i p bytes wired at alone d is b runs =
    let here : GivesNoActor mouths i (needs.Give (port.Program d) bytes) = subst (λ (q : Port). GivesNoActor mouths i (needs.Give q bytes)) is alone in
    here b (sym (tenant_at wires mouths w a i wired at d) ∙ runs)

pub give_exchanges : (mouths later : List Mouths) (a : List ℕ) (slot : Option (ℕ × ℕ)) (i : ℕ) (p : Port) (bytes : List ℕ) (pid most : ℕ) → GivesNoActor mouths i (needs.Give p bytes)
    → HasGivenTo (leads mouths i slot a p) bytes mouths later → Exchanges (Some i) slot mouths later pid most a (needs.Give p bytes) got.Gave
give_exchanges mouths later a slot i p bytes pid most alone gave = by_end (leads mouths i slot a p) refl gave where
  given_at : (o : Option (ℕ × Port)) → leads mouths i slot a p ≡ o → (wires : List ℕ → Option ℕ) (w : Pipework) → HasWires wires mouths w a (Some i) slot → IsGivenAt wires w a p bytes o
  given_at o is wires w has =
      subst (IsGivenAt wires w a p bytes) is
      (gives_leads wires mouths w a bytes has.wired i slot has.at has.slot_is p (alone_in wires mouths w a i p bytes has.wired has.at alone))

  by_end : (o : Option (ℕ × Port)) → leads mouths i slot a p ≡ o → HasGivenTo o bytes mouths later → Exchanges (Some i) slot mouths later pid most a (needs.Give p bytes) got.Gave
  by_end None is same = record {
    keep = keep_same mouths later same;
    kind = tt;
    within = tt;
    brings = λ wires w has. refl;
    wired = λ wires w has.
        subst (λ (pipes : List ℕ → Port → Pipe). AreWired wires later (record { pipes = pipes; programs = w.programs; slots = w.slots })) (sym (given_at None is wires w has))
        (subst (λ (l : List Mouths). AreWired wires l w) (sym same) has.wired);
  }
  by_end (Some to) is gave =
      let m = gave.0 in
      let n = gave.1 in
      let here = gave.2 in
      let whole = gave.3 in
      record {
        keep = subst (Keep mouths) (sym whole) (keep_set mouths to.0 m n here gave.4.slots (all_stay m n gave.4.tenants gave.4.ended));
        kind = tt;
        within = tt;
        brings = λ wires w has. refl;
        wired = λ wires w has.
            let there = given_at (Some to) is wires w has in
            subst (λ (pipes : List ℕ → Port → Pipe). AreWired wires later (record { pipes = pipes; programs = w.programs; slots = w.slots })) (sym there.2)
            (subst (λ (l : List Mouths). AreWired wires l (record { pipes = put_pipe w.pipes (Some (mouth there.0 to.1)) (given bytes); programs = w.programs; slots = w.slots })) (sym whole)
            (wired_pipe wires mouths there.0 to.0 m n there.1 here w has.wired to.1 (given bytes) gave.4.pipes gave.4.tenants));
      }

-- so they are as before if nothing was given
pub same_at : (mouths later : List Mouths) (o : Option (ℕ × Port)) → IsSameAt o mouths later → AreAsBefore mouths later
same_at mouths later None same = before_same mouths later same
same_at mouths later (Some to) same = subst (AreAsBefore mouths) (sym same.3) (as_before mouths to.0 same.0 same.1 same.2 same.4)

-- where a giving leads, there are pipes

pub stands_at : (mouths : List Mouths) (i : ℕ) (m : Mouths) → i < length mouths → m ≡ get_or mouths i m → slice_get mouths i ≡ Some m
stands_at mouths i m low read =
    let w = some_within mouths i low in
    w.1 ∙ ap Some (sym (get_or_from_slice_get mouths i w.0 m w.1) ∙ sym read)

-- who runs in a slot has one
pub slot_there : (a : List ℕ) (o : Option Held) → is_by a (runs_in o) ≡ true → (slot : Held) × (o ≡ Some slot)
slot_there a None by = absurd (cc)
slot_there a (Some slot) by = (slot, refl)

pub place_there : (a : List ℕ) (d : ℕ) (o : Option Mouths) → is_by a (tenant_in o d) ≡ true → (m : Mouths) × (o ≡ Some m)
place_there a d None by = absurd (cc)
place_there a d (Some m) by = (m, refl)

-- and so has a remote program
remote_slot : (o : Option Held) → is_remote true (runs_in o) ≡ true → (slot : Held) × (o ≡ Some slot)
remote_slot None is = absurd (cc)
remote_slot (Some slot) is = (slot, refl)

pub remote_there : (m : Mouths) (d : ℕ) → is_remote true (tenant_of m d) ≡ true → d < length m.slots.items
remote_there m d is = let slot = remote_slot (slice_get m.slots.items d) is in slice_get_within m.slots.items d slot.0 slot.1

-- a place with its pipe by that port
abbrev pub IsPlace : List Mouths → ℕ × Port → Type 0
IsPlace mouths to = (m : Mouths) × (slice_get mouths to.0 ≡ Some m) × HasPipe m to.1

slot_place : (mouths : List Mouths) (slot : Option (ℕ × ℕ)) (a : List ℕ) (to : ℕ × Port) → slot_leads mouths slot a ≡ Some to → IsPlace mouths to
slot_place mouths None a to is = absurd (cc)
slot_place mouths (Some s) a to is = by_test (is_in mouths s a) refl is where
  by_test : (t : Bool) → is_in mouths s a ≡ t → (if t then Some (s.0, port.Program s.1) else None) ≡ Some to → IsPlace mouths to
  by_test true by is =
      let same : (s.0, port.Program s.1) ≡ to = cc in
      let place = place_there a s.1 (slice_get mouths s.0) by in
      let slot = slot_there a (slice_get place.0.slots.items s.1) (ap (λ (o : Option Mouths). is_by a (tenant_in o s.1)) (sym place.1) ∙ by) in
      subst (IsPlace mouths) same (place.0, place.1, slice_get_within place.0.slots.items s.1 slot.0 slot.1)
  by_test false by is = absurd (cc)

low_place : (mouths : List Mouths) (i : ℕ) (p : Port) (to : ℕ × Port) → ((m : Mouths) → HasPipe m p) → i < 4 → 4 ≤ length mouths → Some (i, p) ≡ Some to → IsPlace mouths to
low_place mouths i p to pipe low many is =
    let same : (i, p) ≡ to = cc in
    let place = some_within mouths i (omega (arith, low, many)) in
    subst (IsPlace mouths) same (place.0, place.1, pipe place.0)

pub leads_place : (mouths : List Mouths) (i : ℕ) (slot : Option (ℕ × ℕ)) (a : List ℕ) (p : Port) (to : ℕ × Port) → 4 ≤ length mouths → leads mouths i slot a p ≡ Some to → IsPlace mouths to
leads_place mouths i slot a port.Input to many is = absurd (cc)
leads_place mouths i slot a port.Output to many is = by_at i is where
  by_at : (i : ℕ) → leads mouths i slot a port.Output ≡ Some to → IsPlace mouths to
  by_at zero is = absurd (cc)
  by_at (suc zero) is = low_place mouths 0 port.Clean to (λ m. tt) (omega arith) many is
  by_at (suc (suc zero)) is = low_place mouths 0 port.Lspawn to (λ m. tt) (omega arith) many is
  by_at (suc (suc (suc zero))) is = low_place mouths 0 port.Rspawn to (λ m. tt) (omega arith) many is
  by_at (suc (suc (suc (suc i)))) is = slot_place mouths slot a to is
leads_place mouths i slot a port.Clean to many is = low_place mouths 1 port.Input to (λ m. tt) (omega arith) many is
leads_place mouths i slot a port.Lspawn to many is = low_place mouths 2 port.Input to (λ m. tt) (omega arith) many is
leads_place mouths i slot a port.Rspawn to many is = low_place mouths 3 port.Input to (λ m. tt) (omega arith) many is
leads_place mouths i slot a port.Todo to many is = absurd (cc)
leads_place mouths i slot a (port.Program d) to many is = absurd (cc)
leads_place mouths i slot a (port.Status d) to many is = absurd (cc)

-- those that are read there
pub read_place : (mouths : List Mouths) (to : ℕ × Port) (m : Mouths) → IsPlace mouths to → m ≡ get_or mouths to.0 m → (slice_get mouths to.0 ≡ Some m) × HasPipe m to.1
read_place mouths to m place read =
    let here = stands_at mouths to.0 m (slice_get_within mouths to.0 place.0 place.1) read in
    let both : Some place.0 ≡ Some m = sym place.1 ∙ here in
    let same : place.0 ≡ m = cc in
    (here, subst (λ (m : Mouths). HasPipe m to.1) same place.2)

-- room was made, and then they were given
pub given_after : (m k n : Mouths) (p : Port) (bytes : List ℕ) → IsSame m k → HasPiped k n p (given bytes) → HasPiped m n p (given bytes)
given_after m k n p bytes made gave = record {
  pipes = λ q. gave.pipes q ∙ ap (λ (pipe : Pipe). if is_port q p then given bytes pipe else pipe) (made.pipes q);
  tenants = λ d. gave.tenants d ∙ made.tenants d;
  ended = λ d. gave.ended d ∙ made.ended d;
  slots = gave.slots ∙ made.slots;
}

-- a member has 256 slots
pub slot_for : (i : ℕ) (m : Mouths) (asked : ChildData) → SuitsPlace i (needs.Start asked) → length m.slots.items ≡ slots_at i → HasSlotFor m asked
slot_for i m (child.Remote d domain sender recipient) low slots = slots ∙ ap (λ (t : Bool). if t then 256 else 1) (lt-ltb i 4 low)
slot_for i m (child.Bounce room) low slots = absurd low
slot_for i m (child.Forward uid room) low slots = absurd low
slot_for i m (child.Local d words uid) low slots = absurd low
