-- What an actor finds by the pipes that are kept is what it finds by the state.
use Rattle.std.proofs.Common.{◌≡◌, ℕ, zero, suc, ◌+◌, ◌-◌, ◌<◌, ◌≤◌, List, [], ◌∷◌, length, Bool, true, false, not, Option, Some, None, refl, sym, ap, ◌∙◌, arith}
use Rattle.std.specs.Prelude.{if◌then◌else◌, nat_lt, option_map, position}
use Rattle.std.specs.List.{slice_get, range_with_len, prefix_len}
use Rattle.std.proofs.lemmas.Bool.{lt-ltb, le-ltb, ltb-true, ltb-false}
use Rattle.call_fs.specs.declared.program.Port.{Port}
use Rattle.call_fs.specs.declared.program.Port.TheVariants as port
use Rattle.call_fs.specs.declared.program.Ready.{Ready}
use Rattle.call_fs.specs.declared.program.TheConstants.{INPUT_READY}
use Rattle.world_events.specs.declared.event.Program.{Program}
use Rattle.world_events.specs.declared.event.Program.TheVariants.{Injector, Cleaner, Sender, LocalSpawner, RemoteSpawner, Delivery}
use Rattle.world_pipes.specs.declared.mouths.Mouths.{Mouths}
use Rattle.world_pipes.specs.declared.mouths.Slot.{Slot}
use Rattle.world_pipes.specs.declared.mouths.Tenant.{Tenant as Held}
use Rattle.world_pipes.specs.declared.mouths.Tenant.TheVariants as held
use Rattle.world_pipes.specs.Mouths.{pipe_of, tenant_kept, is_ended, ended_in, ended_of, runs_in, is_remote, IsLowest}
use Rattle.world_pipes.specs.Pipework.{Pipe, Tenant, is_ready}
use Rattle.world_pipes.specs.Pipework.Tenant.{Runs, Remote}
use Rattle.mail_world.specs.History.{State}
use Rattle.mail_world.specs.Readiness.{is_gone, has_ended, lowest_ended, input_alone, only_child, input_or_child, is_awaiting, found_by}
use Rattle.mail_world.specs.Wired.{IsOwnPort, AreWired, AreOver, slots_at, HaveSlots}
use Rattle.mail_world.specs.Inside.{RunsBy}
use Rattle.mail_world.specs.ByKind.{IsMail}
use Rattle.actor_names.specs.Members.{member_at}
use Rattle.mail_world.specs.Crew.{FindsBy, IsFoundAt, input_of}
use Rattle.mail_world.proofs.Feeds.{own_pipe, own_tenant}
use Rattle.mail_world.proofs.Lists.{some_at}
use Rattle.std.proofs.lemmas.Option.{slice_get_within}

-- The first of some numbers that passes a test

count_none : (t : ℕ → Bool) (a n : ℕ) → ((d : ℕ) → a ≤ d → d < a + n → t d ≡ false) → prefix_len (λ d. not (t d)) (range_with_len a n) ≡ n
count_none t a zero none = refl
count_none t a (suc n) none =
    let first : t a ≡ false = none a (omega arith) (omega arith) in
    let rest = count_none t (a + 1) n (λ d le lt. none d (omega (arith, le)) (omega (arith, lt))) in
    ap (λ (b : Bool). if not b then 1 + prefix_len (λ d. not (t d)) (range_with_len (a + 1) n) else 0) first ∙ omega (arith, rest)

count_some : (t : ℕ → Bool) (a n low : ℕ) → a ≤ low → low < a + n → t low ≡ true → ((d : ℕ) → a ≤ d → d < low → t d ≡ false)
    → prefix_len (λ d. not (t d)) (range_with_len a n) ≡ low - a
count_some t a zero low le lt holds before = absurd (omega (arith, le, lt))
count_some t a (suc n) low le lt holds before =
    by_test (nat_lt a low) refl (λ (less : a < low). count_some t (a + 1) n low (omega (arith, less)) (omega (arith, lt)) holds (λ d le lt. before d (omega (arith, le)) lt))
  where
    by_test : (b : Bool) → nat_lt a low ≡ b → (a < low → prefix_len (λ d. not (t d)) (range_with_len (a + 1) n) ≡ low - (a + 1)) → prefix_len (λ d. not (t d)) (range_with_len a (suc n)) ≡ low - a
    by_test true is more =
        let less : a < low = ltb-true a low is in
        let rest = more less in
        ap (λ (b : Bool). if not b then 1 + prefix_len (λ d. not (t d)) (range_with_len (a + 1) n) else 0) (before a (omega arith) less) ∙ omega (arith, rest, less)
    by_test false is more =
        let no_less : low ≤ a = ltb-false a low is in
        let same : low ≡ a = omega (arith, le, no_less) in
        ap (λ (b : Bool). if not b then 1 + prefix_len (λ d. not (t d)) (range_with_len (a + 1) n) else 0) (ap t (sym same) ∙ holds) ∙ omega (arith, same)

many : (a n : ℕ) → length (range_with_len a n) ≡ n
many a zero = refl
many a (suc n) = let rest = many (a + 1) n in omega (arith, rest)

by_count : (p n : ℕ) (child : Option ℕ) → n ≡ 256 → (child ≡ None → p ≡ 256) → ((low : ℕ) → child ≡ Some low → (p ≡ low) × (low < 256)) → (if nat_lt p n then Some p else None) ≡ child
by_count p n None hn none some =
    let hp = none refl in
    let no : nat_lt p n ≡ false = le-ltb p n (omega (arith, hp, hn)) in
    ap (λ (b : Bool). if b then Some p else None) no
by_count p n (Some low) hn none some =
    let hp = some low refl in
    let same = hp.0 in
    let lt = hp.1 in
    let yes : nat_lt p n ≡ true = lt-ltb p n (omega (arith, same, lt, hn)) in
    ap (λ (b : Bool). if b then Some p else None) yes ∙ ap Some same

pub lowest_is : (t : ℕ → Bool) (child : Option ℕ) → ((d : ℕ) → t d ≡ true → d < 256) → IsLowest t 0 child → position t (range_with_len 0 256) ≡ child
lowest_is t None few none =
    by_count (prefix_len (λ d. not (t d)) (range_with_len 0 256)) (length (range_with_len 0 256)) None (many 0 256)
    (λ e. count_none t 0 256 (λ d le lt. none d (omega arith) (omega (arith, lt))))
    (λ low e. absurd (cc))
lowest_is t (Some low) few is =
    let lt = few low is.1 in
    by_count (prefix_len (λ d. not (t d)) (range_with_len 0 256)) (length (range_with_len 0 256)) (Some low) (many 0 256)
    (λ e. absurd (cc))
    (λ found e. let same : low ≡ found = cc in (count_some t 0 256 low (omega arith) (omega (arith, lt)) is.1 is.2 ∙ omega (arith, same), omega (arith, lt, same)))

-- By the pipes

-- a remote program in a slot has ended exactly if its report came
pub ended_remote : (s : State) (o : Option Tenant) → ((c : List ℕ) → o ≡ Some (Runs c) → ⊥) → has_ended s o ≡ is_remote true o
ended_remote s None none = refl
ended_remote s (Some (Runs c)) none = absurd (none c refl)
ended_remote s (Some (Remote true)) none = refl
ended_remote s (Some (Remote false)) none = refl

-- and any program, if who is over is marked so
module _ (s : State) where
  by_tenant : (t : Option Held) → ((c : List ℕ) → option_map tenant_kept t ≡ Some (Runs c) → is_ended t ≡ is_gone (s.actors c)) → has_ended s (option_map tenant_kept t) ≡ is_ended t
  by_tenant None over = refl
  by_tenant (Some (held.Actor name gone)) over = sym (over name refl)
  by_tenant (Some (held.Remote reported)) over = refl

  by_slot : (o : Option Slot) → ((c : List ℕ) → runs_in o ≡ Some (Runs c) → ended_in o ≡ is_gone (s.actors c)) → has_ended s (runs_in o) ≡ ended_in o
  by_slot None over = refl
  by_slot (Some slot) over = by_tenant slot.tenant over

some_slot : (o : Option Slot) → ended_in o ≡ true → (slot : Slot) × (o ≡ Some slot)
some_slot None is = absurd cc
some_slot (Some slot) is = (slot, refl)

few_slots : (i : ℕ) → slots_at i ≤ 256
few_slots i = by_low (nat_lt i 4) where
  by_low : (t : Bool) → (if t then 256 else 1) ≤ 256
  by_low true = omega arith
  by_low false = omega arith

position_alike : (t u : ℕ → Bool) (xs : List ℕ) → ((d : ℕ) → t d ≡ u d) → prefix_len (λ d. not (t d)) xs ≡ prefix_len (λ d. not (u d)) xs
position_alike t u [] same = refl
position_alike t u (x ∷ xs) same =
    ap (λ (b : Bool). if not b then 1 + prefix_len (λ d. not (t d)) xs else 0) (same x)
    ∙ ap (λ (n : ℕ). if not (u x) then 1 + n else 0) (position_alike t u xs same)

-- the program in a slot of its own
slot_found : (s : State) (wires : List ℕ → Option ℕ) (mouths : List Mouths) (a : List ℕ) (i : ℕ) (m : Mouths) → AreWired wires mouths s.pipework → AreOver (λ c. is_gone (s.actors c)) mouths
    → wires a ≡ Some i → slice_get mouths i ≡ Some m → (d : ℕ) → has_ended s (s.pipework.programs a d) ≡ ended_of m d
slot_found s wires mouths a i m wired over at is d =
    ap (has_ended s) (own_tenant wires mouths s.pipework a i m wired at is d) ∙ by_slot s (slice_get m.slots.items d) (λ c runs. over i m d c is runs)

lowest_found : (s : State) (wires : List ℕ → Option ℕ) (mouths : List Mouths) (a : List ℕ) (i : ℕ) (m : Mouths) (child : Option ℕ) → AreWired wires mouths s.pipework → HaveSlots mouths
    → AreOver (λ c. is_gone (s.actors c)) mouths → wires a ≡ Some i → slice_get mouths i ≡ Some m → IsLowest (ended_of m) 0 child → lowest_ended s a ≡ child
lowest_found s wires mouths a i m child wired slots over at is low =
    ap (λ (p : ℕ). if nat_lt p (length (range_with_len 0 256)) then Some p else None)
    (position_alike (λ d. has_ended s (s.pipework.programs a d)) (ended_of m) (range_with_len 0 256)
    (slot_found s wires mouths a i m wired over at is))
    ∙ lowest_is (ended_of m) child
    (λ d yes.
    let slot = some_slot (slice_get m.slots.items d) yes in
    let within = slice_get_within m.slots.items d slot.0 slot.1 in
    let many = slots i m is in
    omega (arith, within, many, few_slots i)) low

-- the links of each
three_links : (p q r a b c : Pipe) → p ≡ a → q ≡ b → r ≡ c
    → ◌≡◌ {A = List Bool} (is_ready p ∷ is_ready q ∷ is_ready r ∷ false ∷ []) (is_ready a ∷ is_ready b ∷ is_ready c ∷ false ∷ [])
three_links p q r a b c hp hq hr =
    ap (λ (p : Pipe). is_ready p ∷ is_ready q ∷ is_ready r ∷ false ∷ []) hp
    ∙ ap (λ (q : Pipe). is_ready a ∷ is_ready q ∷ is_ready r ∷ false ∷ []) hq
    ∙ ap (λ (r : Pipe). is_ready a ∷ is_ready b ∷ is_ready r ∷ false ∷ []) hr

pub found_is : (s : State) (wires : List ℕ → Option ℕ) (mouths : List Mouths) (a : List ℕ) (at : Option ℕ) (program : Program) (awaits : Bool) (ready : Ready) → AreWired wires mouths s.pipework → HaveSlots mouths
    → AreOver (λ c. is_gone (s.actors c)) mouths → wires a ≡ at → RunsBy at program → (IsMail program → awaits ≡ is_awaiting s a) → IsFoundAt mouths at awaits ready → ready ≡ found_by s a program
found_is s wires mouths a None program awaits ready wired slots over at runs same found = by_program program runs (same runs) where
  by_program : (program : Program) → IsMail program → awaits ≡ is_awaiting s a → ready ≡ found_by s a program
  by_program (Injector args) mail same = found ∙ ap (λ (t : Bool). if t then input_alone false else INPUT_READY) same
  by_program other mail same = absurd mail
found_is s wires mouths a (Some i) program awaits ready wired slots over at runs same found = by_member (some_at (λ m. FindsBy (member_at i) m ready) (slice_get mouths i) found) where
  by_member : (m : Mouths) × (slice_get mouths i ≡ Some m) × FindsBy (member_at i) m ready → ready ≡ found_by s a program
  by_member found = by_seat i program runs at found.1 found.2 where
    m : Mouths
    m = found.0

    pipe : (i : ℕ) → wires a ≡ Some i → slice_get mouths i ≡ Some m → (p : Port) → IsOwnPort i p → pipe_of m p ≡ s.pipework.pipes a p
    pipe i at is p own = sym (own_pipe wires mouths s.pipework a i m wired at is p own)

    input : (i : ℕ) → wires a ≡ Some i → slice_get mouths i ≡ Some m → (child : Option ℕ) → ready ≡ input_of m child
        → ready ≡ record { links = is_ready (s.pipework.pipes a port.Input) ∷ false ∷ false ∷ false ∷ []; child = child }
    input i at is child finds =
        finds ∙ ap (λ (p : Pipe). record { links = is_ready p ∷ false ∷ false ∷ false ∷ []; child = child }) (pipe i at is port.Input tt)

    -- who finds which of its programs has ended, at a place from the third on
    or_child : (j : ℕ) → wires a ≡ Some (suc (suc j)) → slice_get mouths (suc (suc j)) ≡ Some m → FindsBy None m ready → ready ≡ input_or_child s a
    or_child j at is finds =
        input (suc (suc j)) at is finds.0 finds.2
        ∙ ap (λ (child : Option ℕ). record { links = is_ready (s.pipework.pipes a port.Input) ∷ false ∷ false ∷ false ∷ []; child = child })
        (sym (lowest_found s wires mouths a (suc (suc j)) m finds.0 wired slots over at is finds.1))

    by_seat : (i : ℕ) (program : Program) → RunsBy (Some i) program → wires a ≡ Some i → slice_get mouths i ≡ Some m → FindsBy (member_at i) m ready → ready ≡ found_by s a program
    by_seat zero (Sender start) runs at is finds =
        let f : List Bool → Bool → Ready = λ l b. record { links = l; child = only_child b } in
        finds
        ∙ ap (f (is_ready (pipe_of m port.Clean) ∷ is_ready (pipe_of m port.Lspawn) ∷ is_ready (pipe_of m port.Rspawn) ∷ false ∷ [])) (sym (slot_found s wires mouths a zero m wired over at is 0))
        ∙ ap (λ (l : List Bool). f l (has_ended s (s.pipework.programs a 0)))
        (three_links (pipe_of m port.Clean) (pipe_of m port.Lspawn) (pipe_of m port.Rspawn) (s.pipework.pipes a port.Clean) (s.pipework.pipes a port.Lspawn) (s.pipework.pipes a port.Rspawn)
        (pipe zero at is port.Clean (omega arith)) (pipe zero at is port.Lspawn (omega arith)) (pipe zero at is port.Rspawn (omega arith)))
    by_seat zero other runs at is finds = absurd runs
    by_seat (suc zero) (Cleaner start) runs at is finds = input 1 at is None finds
    by_seat (suc zero) other runs at is finds = absurd runs
    by_seat (suc (suc zero)) (LocalSpawner start) runs at is finds = or_child 0 at is finds
    by_seat (suc (suc zero)) other runs at is finds = absurd runs
    by_seat (suc (suc (suc zero))) (RemoteSpawner start) runs at is finds = or_child 1 at is finds
    by_seat (suc (suc (suc zero))) other runs at is finds = absurd runs
    by_seat (suc (suc (suc (suc j)))) (Delivery start args) runs at is finds = or_child (suc (suc j)) at is finds
    by_seat (suc (suc (suc (suc j)))) other runs at is finds = absurd runs
