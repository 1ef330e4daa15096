-- What is shut when an actor is over is what the model says.
use Rattle.std.proofs.Common.{◌≡◌, ◌≢◌, ℕ, zero, suc, ◌<◌, ◌≤◌, List, length, set, Bool, true, false, Option, Some, None, refl, sym, ap, ◌∙◌, subst, ⊎_elim, arith, codes, bytes_eq, get_or}
use Rattle.std.specs.Prelude.{◌==◌, ◌&&◌, if◌then◌else◌, option_map, nat_lt}
use Rattle.std.specs.List.{slice_get}
use Rattle.std.proofs.lemmas.Bool.{lt-ltb, le-ltb}
use Rattle.std.proofs.lemmas.Bool.Decides.{eqb_tells}
use Rattle.std.proofs.lemmas.List.{length-set}
use Rattle.std.proofs.lemmas.Option.{slice_get_within}
use Rattle.actor_names.specs.declared.member.Member.{Member}
use Rattle.actor_names.specs.declared.member.Member.TheVariants as member
use Rattle.actor_names.specs.Members.{name_of, seat_of}
use Rattle.call_fs.specs.declared.program.Port.{Port}
use Rattle.call_fs.specs.declared.program.Port.TheVariants as port
use Rattle.world_pipes.specs.declared.mouths.Mouths.{Mouths}
use Rattle.world_pipes.specs.Mouths.{pipe_of, tenant_of, ended_of}
use Rattle.world_pipes.specs.Pipework.{Pipe, Pipework, Slot, Tenant, closed, is_port, is_member, is_writer, is_by, writer, actor_of, without_writer}
use Rattle.world_pipes.specs.Pipework.Tenant.{Runs, Remote}
use Rattle.world_pipes.specs.Wired.{seat, pipe_in, tenant_in, kept_at, slot_in, IsOwnPort, AreWired, IsSlotOf, HasWires, AreOver}
use Rattle.world_pipes.specs.Exchanges.{is_in, gives_input, gives_at, HasShut, AreShut, HasOver, SlotIsShut, OwnIsShut, HaveShut, IsGoneToo, ShutsAfter}
use Rattle.world_pipes.proofs.Feeds.{own_pipe, own_tenant, tenant_at, stands_at, place_there}
use Rattle.world_pipes.proofs.Keeps.{slots_set, children_set}
use Rattle.world_pipes.proofs.Lists.{get_set, some_within}
use Rattle.world_pipes.proofs.Members.{whether, other_than, other_text, same_text, text_cases}
use Rattle.world_pipes.proofs.Seats.{seated_name, seat_within, seat_low, seat_some}
use Rattle.world_pipes.proofs.Wires.{wired_pipe, rewired}

-- The writers

-- what each member gives, by its name
abbrev feeds_by : Bool → List ℕ → Bool
feeds_by to_member a = if to_member then bytes_eq a (codes "sender") else bytes_eq a (codes "lspawn")

feeds_so : (giver : Member) (to_member : Bool) → feeds_by to_member (name_of giver) ≡ gives_input giver to_member
feeds_so member.Sender true = refl
feeds_so member.Sender false = refl
feeds_so member.Cleaner true = refl
feeds_so member.Cleaner false = refl
feeds_so member.LocalSpawner true = refl
feeds_so member.LocalSpawner false = refl
feeds_so member.RemoteSpawner true = refl
feeds_so member.RemoteSpawner false = refl

clean_so : (giver : Member) (j : ℕ) → bytes_eq (name_of giver) (codes "clean") ≡ gives_at giver j port.Clean
clean_so member.Sender j = refl
clean_so member.Cleaner j = refl
clean_so member.LocalSpawner j = refl
clean_so member.RemoteSpawner j = refl

lspawn_so : (giver : Member) (j : ℕ) → bytes_eq (name_of giver) (codes "lspawn") ≡ gives_at giver j port.Lspawn
lspawn_so member.Sender j = refl
lspawn_so member.Cleaner j = refl
lspawn_so member.LocalSpawner j = refl
lspawn_so member.RemoteSpawner j = refl

rspawn_so : (giver : Member) (j : ℕ) → bytes_eq (name_of giver) (codes "rspawn") ≡ gives_at giver j port.Rspawn
rspawn_so member.Sender j = refl
rspawn_so member.Cleaner j = refl
rspawn_so member.LocalSpawner j = refl
rspawn_so member.RemoteSpawner j = refl

runner_other : (a : List ℕ) (o : Option Tenant) → ((c : List ℕ) → o ≡ Some (Runs c) → a ≢ c) → is_writer a (actor_of o) ≡ false
runner_other a None apart = refl
runner_other a (Some (Runs c)) apart = other_text a c (apart c refl)
runner_other a (Some (Remote reported)) apart = refl

-- the pipes by that port of a slot alone
abbrev by_slot : (ℕ → Bool) → Port → Bool
by_slot t (port.Program d) = t d
by_slot t other = false

module _ (wires : List ℕ → Option ℕ) (mouths : List Mouths) (w : Pipework) (wired : AreWired wires mouths w) where
  -- the input of a member is the sender's to give, that of another one the local spawner's
  fed_by : (b : List ℕ) (j : ℕ) → wires b ≡ Some j → (a : List ℕ) → is_writer a (writer w b port.Input) ≡ feeds_by (nat_lt j 4) a
  fed_by b j of a = ⊎_elim
      (λ member.
      let low = seat_low b j (sym (wired.seats b member) ∙ of) in
      ap (is_writer a) (ap (λ (t : Bool). if t then Some (codes "sender") else option_map (λ slot. slot.parent) (w.slots b)) member)
      ∙ ap (λ (t : Bool). feeds_by t a) (sym (lt-ltb j 4 low)))
      (λ other.
      let own = wired.others b j of other in
      ap (is_writer a) (ap (λ (t : Bool). if t then Some (codes "sender") else option_map (λ slot. slot.parent) (w.slots b)) other ∙ ap (option_map (λ slot. slot.parent)) own.slot)
      ∙ ap (λ (t : Bool). feeds_by t a) (sym (le-ltb j 4 own.high)))
      (whether (is_member b))

  member_writes : (a : List ℕ) (giver : Member) → a ≡ name_of giver → (b : List ℕ) (j : ℕ) → wires b ≡ Some j → ((d : ℕ) (c : List ℕ) → w.programs b d ≡ Some (Runs c) → a ≢ c)
      → (q : Port) → is_writer a (writer w b q) ≡ gives_at giver j q
  member_writes a giver named b j of apart port.Input = fed_by b j of a ∙ ap (feeds_by (nat_lt j 4)) named ∙ feeds_so giver (nat_lt j 4)
  member_writes a giver named b j of apart port.Output = refl
  member_writes a giver named b j of apart port.Clean = ap (λ (a : List ℕ). bytes_eq a (codes "clean")) named ∙ clean_so giver j
  member_writes a giver named b j of apart port.Lspawn = ap (λ (a : List ℕ). bytes_eq a (codes "lspawn")) named ∙ lspawn_so giver j
  member_writes a giver named b j of apart port.Rspawn = ap (λ (a : List ℕ). bytes_eq a (codes "rspawn")) named ∙ rspawn_so giver j
  member_writes a giver named b j of apart port.Todo = refl
  member_writes a giver named b j of apart (port.Program d) = runner_other a (w.programs b d) (apart d)
  member_writes a giver named b j of apart (port.Status d) = refl

  -- who is no member gives what its slot's program does
  other_writes : (a : List ℕ) → is_member a ≡ false → (b : List ℕ) (j : ℕ) → wires b ≡ Some j → (t : ℕ → Bool) → ((d : ℕ) → is_writer a (actor_of (w.programs b d)) ≡ t d)
      → (q : Port) → is_writer a (writer w b q) ≡ by_slot t q
  other_writes a other b j of t slots port.Input =
      fed_by b j of a ∙ both (nat_lt j 4) (other_text a (codes "sender") (other_than a (codes "sender") other refl)) (other_text a (codes "lspawn") (other_than a (codes "lspawn") other refl))
    where
      both : (t : Bool) → bytes_eq a (codes "sender") ≡ false → bytes_eq a (codes "lspawn") ≡ false → (if t then bytes_eq a (codes "sender") else bytes_eq a (codes "lspawn")) ≡ false
      both true one two = one
      both false one two = two
  other_writes a other b j of t slots port.Output = refl
  other_writes a other b j of t slots port.Clean = other_text a (codes "clean") (other_than a (codes "clean") other refl)
  other_writes a other b j of t slots port.Lspawn = other_text a (codes "lspawn") (other_than a (codes "lspawn") other refl)
  other_writes a other b j of t slots port.Rspawn = other_text a (codes "rspawn") (other_than a (codes "rspawn") other refl)
  other_writes a other b j of t slots port.Todo = refl
  other_writes a other b j of t slots (port.Program d) = slots d
  other_writes a other b j of t slots (port.Status d) = refl

  -- it runs in its own slot, if anywhere
  own_slot : (a b : List ℕ) (d : ℕ) (c : List ℕ) → w.programs b d ≡ Some (Runs c) → a ≡ c → w.slots a ≡ Some (slot_in b d)
  own_slot a b d c runs same = ap w.slots same ∙ wired.children b d c runs

  -- who has no slot runs nowhere
  nowhere : (a : List ℕ) → w.slots a ≡ None → (b : List ℕ) (d : ℕ) (c : List ℕ) → w.programs b d ≡ Some (Runs c) → a ≢ c
  nowhere a none b d c runs same = let both : ◌≡◌ {A = Option Slot} None (Some (slot_in b d)) = sym none ∙ own_slot a b d c runs same in absurd (cc)

  -- who owns the place in which somebody runs
  owner : (j : ℕ) (m : Mouths) (d : ℕ) (c : List ℕ) → slice_get mouths j ≡ Some m → tenant_of m d ≡ Some (Runs c) → (b : List ℕ) × (wires b ≡ Some j) × (w.programs b d ≡ Some (Runs c))
  owner j m d c is runs =
      let own = wired.owned j (slice_get_within mouths j m is) in
      (own.0, own.1, own_tenant wires mouths w own.0 j m wired own.1 is d ∙ runs)

  -- a member is in no slot
  member_nowhere : (a : List ℕ) → is_member a ≡ true → (b : List ℕ) (d : ℕ) (c : List ℕ) → w.programs b d ≡ Some (Runs c) → a ≢ c
  member_nowhere a member = nowhere a (wired.members a member)

-- who is over besides is none of those that run
not_gone : (a : List ℕ) (gone now : List ℕ → Bool) (mouths : List Mouths) → IsGoneToo a gone now → ((j : ℕ) (m : Mouths) (d : ℕ) (c : List ℕ) → slice_get mouths j ≡ Some m → tenant_of m d ≡ Some (Runs c) → a ≢ c)
    → AreOver gone mouths → AreOver now mouths
not_gone a gone now mouths too apart over j m d c is runs = over j m d c is runs ∙ sym (too.others c (λ same. apart j m d c is runs (sym same)))

-- A member is over

module _ (mouths later : List Mouths) (a : List ℕ) (giver : Member) (slot : Option (ℕ × ℕ)) (four : 4 ≤ length mouths) (shut : AreShut giver mouths later) where
  was_at : (j : ℕ) (n : Mouths) → slice_get later j ≡ Some n → (m : Mouths) × (slice_get mouths j ≡ Some m) × HasShut (gives_at giver j) m n
  was_at j n is =
      let m = some_within mouths j (subst (λ (k : ℕ). j < k) shut.many (slice_get_within later j n is)) in
      (m.0, m.1, shut.each j m.0 n m.1 is)

  -- its seat is that place
  its_seat : (wires : List ℕ → Option ℕ) (w : Pipework) → HasWires wires mouths w a (Some (seat_of giver)) slot → (is_member a ≡ true) × (seat a ≡ Some (seat_of giver))
  its_seat wires w has = ⊎_elim
      (λ member. (member, sym (has.wired.seats a member) ∙ has.at))
      (λ other. let high = (has.wired.others a (seat_of giver) has.at other).high in let low = seat_within giver in absurd (omega (arith, high, low)))
      (whether (is_member a))

  -- what is kept before and after at the place of an actor
  pair : (wires : List ℕ → Option ℕ) (w : Pipework) → AreWired wires mouths w → (b : List ℕ) (j : ℕ) → wires b ≡ Some j
      → (m : Mouths) × (n : Mouths) × (slice_get mouths j ≡ Some m) × (slice_get later j ≡ Some n) × HasShut (gives_at giver j) m n
  pair wires w wired b j of =
      let there : j < length mouths = ⊎_elim
      (λ member. let seated = seat_low b j (sym (wired.seats b member) ∙ of) in omega (arith, seated, four))
      (λ other. wired.within b j of other)
      (whether (is_member b)) in
      let m = some_within mouths j there in
      let n = some_within later j (subst (λ (k : ℕ). j < k) (sym shut.many) there) in
      (m.0, n.0, m.1, n.1, shut.each j m.0 n.0 m.1 n.1)

  member_wired : (wires : List ℕ → Option ℕ) (w : Pipework) → HasWires wires mouths w a (Some (seat_of giver)) slot → AreWired wires later (without_writer w a)
  member_wired wires w has = rewired wires mouths later w (without_writer w a) has.wired shut.many pipes (λ b d. programs b d (wires b) refl) (λ b. refl) (λ b d c runs. runs) where
    own : (is_member a ≡ true) × (seat a ≡ Some (seat_of giver))
    own = its_seat wires w has

    pipes : (b : List ℕ) (j : ℕ) (q : Port) → wires b ≡ Some j → IsOwnPort j q → (without_writer w a).pipes b q ≡ pipe_in (slice_get later j) q
    pipes b j q of port_own =
        let p = pair wires w has.wired b j of in
        ap (λ (t : Bool). if t then closed (w.pipes b q) else w.pipes b q) (member_writes wires mouths w has.wired a giver (seated_name giver a own.1) b j of (member_nowhere wires mouths w has.wired a own.0 b) q)
        ∙ ap (λ (pipe : Pipe). if gives_at giver j q then closed pipe else pipe) (own_pipe wires mouths w b j p.0 has.wired of p.2 q port_own)
        ∙ sym (p.4.pipes q) ∙ sym (ap (λ (o : Option Mouths). pipe_in o q) p.3)

    programs : (b : List ℕ) (d : ℕ) (o : Option ℕ) → wires b ≡ o → w.programs b d ≡ tenant_in (kept_at (wires b) later) d
    programs b d None of =
        has.wired.programs b d ∙ ap (λ (o : Option ℕ). tenant_in (kept_at o mouths) d) of ∙ sym (ap (λ (o : Option ℕ). tenant_in (kept_at o later) d) of)
    programs b d (Some j) of =
        let p = pair wires w has.wired b j of in
        own_tenant wires mouths w b j p.0 has.wired of p.2 d ∙ sym (p.4.tenants d)
        ∙ sym (ap (λ (o : Option ℕ). tenant_in (kept_at o later) d) of ∙ ap (λ (o : Option Mouths). tenant_in o d) p.3)

  member_shuts : ShutsAfter (Some (seat_of giver)) slot mouths later a
  member_shuts = record {
    many = shut.many;
    slots = λ slots j n is. let m = was_at j n is in m.2.slots ∙ slots j m.0 m.1;
    children = λ children j n d c is runs. let m = was_at j n is in children j m.0 d c m.1 (sym (m.2.tenants d) ∙ runs);
    over = λ wires w has children gone now too over j n d c is runs.
        let m = was_at j n is in
        let ran = sym (m.2.tenants d) ∙ runs in
        let of = owner wires mouths w has.wired j m.0 d c m.1 ran in
        m.2.ended d ∙ over j m.0 d c m.1 ran
        ∙ sym (too.others c (λ same. member_nowhere wires mouths w has.wired a (its_seat wires w has).0 of.0 d c of.2 (sym same)));
    wired = λ wires w has children. member_wired wires w has;
  }

-- Another one is over

-- no member has its pipes there
abbrev IsNoSeat : Option ℕ → Type 0
IsNoSeat wire = (k : ℕ) → wire ≡ Some k → 4 ≤ k

module _ (mouths : List Mouths) (a : List ℕ) (wire : Option ℕ) (slot : Option (ℕ × ℕ)) (none : IsNoSeat wire) where
  no_member : (wires : List ℕ → Option ℕ) (w : Pipework) → HasWires wires mouths w a wire slot → is_member a ≡ false
  no_member wires w has = ⊎_elim
      (λ member.
      let s = seat_some a member in
      let low = s.low in
      let high = none s.at (sym has.at ∙ has.wired.seats a member ∙ s.is) in absurd (omega (arith, low, high)))
      (λ other. other)
      (whether (is_member a))

  -- it runs in no slot any more
  nothing_shuts : ((wires : List ℕ → Option ℕ) (w : Pipework) → HasWires wires mouths w a wire slot → (b : List ℕ) (j d : ℕ) (c : List ℕ) → wires b ≡ Some j → w.programs b d ≡ Some (Runs c) → a ≢ c)
      → ShutsAfter wire slot mouths mouths a
  nothing_shuts apart = record {
    many = refl;
    slots = λ slots. slots;
    children = λ children. children;
    over = λ wires w has children gone now too over. not_gone a gone now mouths too
        (λ j m d c is runs. let of = owner wires mouths w has.wired j m d c is runs in apart wires w has of.0 j d c of.1 of.2) over;
    wired = λ wires w has children. rewired wires mouths mouths w (without_writer w a) has.wired refl
        (λ b j q of own. ap (λ (t : Bool). if t then closed (w.pipes b q) else w.pipes b q)
        (other_writes wires mouths w has.wired a (no_member wires w has) b j of (λ d. false) (λ d. runner_other a (w.programs b d) (λ c runs. apart wires w has b j d c of runs)) q ∙ never q)
        ∙ has.wired.pipes b j q of own)
        has.wired.programs (λ b. refl) (λ b d c runs. runs);
  } where
    never : (q : Port) → by_slot (λ d. false) q ≡ false
    never port.Input = refl
    never port.Output = refl
    never port.Clean = refl
    never port.Lspawn = refl
    never port.Rspawn = refl
    never port.Todo = refl
    never (port.Program d) = refl
    never (port.Status d) = refl

  none_shuts : slot ≡ None → ShutsAfter wire slot mouths mouths a
  none_shuts none_is = nothing_shuts (λ wires w has b j d c of runs. nowhere wires mouths w has.wired a (subst (IsSlotOf wires (w.slots a)) none_is has.slot_is) b d c runs)

-- two slots that are one
same_slot : (p q : List ℕ) (d e : ℕ) → ◌≡◌ {A = Option Slot} (Some (slot_in p d)) (Some (slot_in q e)) → (p ≡ q) × (d ≡ e)
same_slot p q d e is =
    let same : slot_in p d ≡ slot_in q e = cc in
    (ap (λ (s : Slot). s.parent) same, ap (λ (s : Slot). s.number) same)

is_it : (a : List ℕ) (o : Option Tenant) → is_by a o ≡ true → o ≡ Some (Runs a)
is_it a None by = absurd (cc)
is_it a (Some (Runs c)) by = ⊎_elim
    (λ f. ap (λ (z : List ℕ). Some (Runs z)) f.0)
    (λ f. let v : false ≡ true = sym f.1 ∙ by in absurd (cc))
    (text_cases c a)
is_it a (Some (Remote reported)) by = absurd (cc)

by_it : (a : List ℕ) (o : Option Tenant) → o ≡ Some (Runs a) → is_by a o ≡ true
by_it a o is = ap (is_by a) is ∙ same_text a

module _ (mouths : List Mouths) (a : List ℕ) (wire : Option ℕ) (s : ℕ × ℕ) (none : IsNoSeat wire) where
  -- where it runs, if anywhere
  its_slot : (wires : List ℕ → Option ℕ) (w : Pipework) (has : HasWires wires mouths w a wire (Some s)) (b : List ℕ) (d : ℕ) (c : List ℕ) → w.programs b d ≡ Some (Runs c) → a ≡ c
      → (b ≡ has.slot_is.0) × (d ≡ s.1)
  its_slot wires w has b d c runs same = same_slot b has.slot_is.0 d s.1 (sym (own_slot wires mouths w has.wired a b d c runs same) ∙ has.slot_is.1)

  -- it runs there exactly if it is in its slot
  in_slot : (wires : List ℕ → Option ℕ) (w : Pipework) (has : HasWires wires mouths w a wire (Some s)) → is_by a (w.programs has.slot_is.0 s.1) ≡ is_in mouths s a
  in_slot wires w has = ap (is_by a) (tenant_at wires mouths w has.slot_is.0 s.0 has.wired has.slot_is.2 s.1)

  gone_before : is_in mouths s a ≡ false → ShutsAfter wire (Some s) mouths mouths a
  gone_before out = nothing_shuts mouths a wire (Some s) none (λ wires w has b j d c of runs same.
      let there = its_slot wires w has b d c runs same in
      let runs_there : w.programs has.slot_is.0 s.1 ≡ Some (Runs a) =
      sym (ap (λ (b : List ℕ). w.programs b d) there.0 ∙ ap (w.programs has.slot_is.0) there.1) ∙ runs ∙ ap (λ (z : List ℕ). Some (Runs z)) (sym same) in
      let both : false ≡ true = sym out ∙ sym (in_slot wires w has) ∙ by_it a (w.programs has.slot_is.0 s.1) runs_there in absurd (cc))

  module _ (m n : Mouths) (here : slice_get mouths s.0 ≡ Some m) (over : HasOver m n s.1) (inside : is_in mouths s a ≡ true) where
    tenant_is : tenant_of m s.1 ≡ Some (Runs a)
    tenant_is = ap (λ (o : Option Mouths). tenant_in o s.1) (sym here) ∙ is_it a (tenant_in (slice_get mouths s.0) s.1) inside

    and_false : (t : Bool) → (t && false) ≡ false
    and_false true = refl
    and_false false = refl

    runs_it : (wires : List ℕ → Option ℕ) (w : Pipework) (has : HasWires wires mouths w a wire (Some s)) → w.programs has.slot_is.0 s.1 ≡ Some (Runs a)
    runs_it wires w has = is_it a (w.programs has.slot_is.0 s.1) (in_slot wires w has ∙ inside)

    -- what it gives is taken there
    writes : (wires : List ℕ → Option ℕ) (w : Pipework) (has : HasWires wires mouths w a wire (Some s)) (b : List ℕ) (d : ℕ) → is_writer a (actor_of (w.programs b d)) ≡ (bytes_eq b has.slot_is.0 && (d == s.1))
    writes wires w has b d = ⊎_elim
        (λ f. ⊎_elim
        (λ g. ap (λ (o : Option Tenant). is_writer a (actor_of o)) (ap (λ (b : List ℕ). w.programs b d) f.0 ∙ ap (w.programs has.slot_is.0) g.1 ∙ runs_it wires w has) ∙ same_text a
        ∙ sym (ap (λ (t : Bool). t && (d == s.1)) f.1 ∙ g.0))
        (λ g. runner_other a (w.programs b d) (λ c runs same. g.1 (its_slot wires w has b d c runs same).1) ∙ sym (ap (λ (t : Bool). t && (d == s.1)) f.1 ∙ g.0))
        (eqb_tells d s.1))
        (λ f. runner_other a (w.programs b d) (λ c runs same. f.0 (its_slot wires w has b d c runs same).0) ∙ sym (ap (λ (t : Bool). t && (d == s.1)) f.1))
        (text_cases b has.slot_is.0)

    to_slot : (b p : List ℕ) (q : Port) → by_slot (λ d. bytes_eq b p && (d == s.1)) q ≡ (bytes_eq b p && is_port q (port.Program s.1))
    to_slot b p port.Input = sym (and_false (bytes_eq b p))
    to_slot b p port.Output = sym (and_false (bytes_eq b p))
    to_slot b p port.Clean = sym (and_false (bytes_eq b p))
    to_slot b p port.Lspawn = sym (and_false (bytes_eq b p))
    to_slot b p port.Rspawn = sym (and_false (bytes_eq b p))
    to_slot b p port.Todo = sym (and_false (bytes_eq b p))
    to_slot b p (port.Program d) = refl
    to_slot b p (port.Status d) = sym (and_false (bytes_eq b p))

    slot_wired : (wires : List ℕ → Option ℕ) (w : Pipework) → HasWires wires mouths w a wire (Some s) → AreWired wires (set mouths s.0 n) (without_writer w a)
    slot_wired wires w has =
        let base = wired_pipe wires mouths has.slot_is.0 s.0 m n has.slot_is.2 here w has.wired (port.Program s.1) closed over.pipes over.tenants in
        rewired wires mouths (set mouths s.0 n) w (without_writer w a) has.wired (length-set mouths s.0 n)
        (λ b j q of own. ap (λ (t : Bool). if t then closed (w.pipes b q) else w.pipes b q)
        (other_writes wires mouths w has.wired a (no_member mouths a wire (Some s) none wires w has) b j of (λ d. bytes_eq b has.slot_is.0 && (d == s.1)) (writes wires w has b) q ∙ to_slot b has.slot_is.0 q)
        ∙ base.pipes b j q of own)
        base.programs (λ b. refl) (λ b d c runs. runs)

    slot_over : (wires : List ℕ → Option ℕ) (w : Pipework) → HasWires wires mouths w a wire (Some s) → (gone now : List ℕ → Bool) → IsGoneToo a gone now → AreOver gone mouths → AreOver now (set mouths s.0 n)
    slot_over wires w has gone now too before j z d c at runs = ⊎_elim
        (λ (f : (j ≡ s.0) × (n ≡ z)).
        let ran : tenant_of m d ≡ Some (Runs c) = sym (over.tenants d) ∙ ap (λ (z : Mouths). tenant_of z d) f.1 ∙ runs in
        ap (λ (z : Mouths). ended_of z d) (sym f.1) ∙ over.ended d ∙ ⊎_elim
        (λ (g : ((d == s.1) ≡ true) × (d ≡ s.1)).
        let both : ◌≡◌ {A = Option Tenant} (Some (Runs a)) (Some (Runs c)) = sym tenant_is ∙ ap (tenant_of m) (sym g.1) ∙ ran in
        let same : a ≡ c = cc in
        ap (λ (t : Bool). if t then true else ended_of m d) g.0 ∙ sym (ap now (sym same) ∙ too.is))
        (λ g.
        let of = owner wires mouths w has.wired s.0 m d c here ran in
        ap (λ (t : Bool). if t then true else ended_of m d) g.0 ∙ before s.0 m d c here ran
        ∙ sym (too.others c (λ same. g.1 (its_slot wires w has of.0 d c of.2 (sym same)).1)))
        (eqb_tells d s.1))
        (λ (f : (j ≢ s.0) × (slice_get mouths j ≡ Some z)).
        let of = owner wires mouths w has.wired j z d c f.1 runs in
        before j z d c f.1 runs
        ∙ sym (too.others c (λ same.
        let there = its_slot wires w has of.0 d c of.2 (sym same) in
        let both : ◌≡◌ {A = Option ℕ} (Some j) (Some s.0) = sym of.1 ∙ ap wires there.0 ∙ has.slot_is.2 in
        let one : j ≡ s.0 = cc in f.0 one)))
        (get_set mouths s.0 n j z at)

    slot_shuts : ShutsAfter wire (Some s) mouths (set mouths s.0 n) a
    slot_shuts = record {
      many = length-set mouths s.0 n;
      slots = slots_set mouths s.0 m n here over.slots;
      children = children_set mouths s.0 m n here (λ d c runs. sym (over.tenants d) ∙ runs);
      over = λ wires w has children gone now too before. slot_over wires w has gone now too before;
      wired = λ wires w has children. slot_wired wires w has;
    }

own_shuts : (mouths later : List Mouths) (a : List ℕ) (wire : Option ℕ) (slot : Option (ℕ × ℕ)) → IsNoSeat wire → OwnIsShut slot a mouths later → ShutsAfter wire slot mouths later a
own_shuts mouths later a wire None none same = subst (λ (l : List Mouths). ShutsAfter wire None mouths l a) (sym same) (none_shuts mouths a wire None none refl)
own_shuts mouths later a wire (Some s) none shut = by_test (is_in mouths s a) refl shut where
  by_test : (t : Bool) → is_in mouths s a ≡ t → SlotIsShut t s mouths later → ShutsAfter wire (Some s) mouths later a
  by_test true inside shut = subst (λ (l : List Mouths). ShutsAfter wire (Some s) mouths l a) (sym shut.3) (slot_shuts mouths a wire s none shut.0 shut.1 shut.2 shut.4 inside)
  by_test false outside same = subst (λ (l : List Mouths). ShutsAfter wire (Some s) mouths l a) (sym same) (gone_before mouths a wire s none outside)

pub shuts_after : (mouths later : List Mouths) (a : List ℕ) (wire : Option ℕ) (slot : Option (ℕ × ℕ)) → ((i : ℕ) → wire ≡ Some i → 4 ≤ length mouths) → HaveShut wire slot a mouths later
    → ShutsAfter wire slot mouths later a
shuts_after mouths later a None slot four shut = own_shuts mouths later a None slot (λ k is. absurd (cc)) shut
shuts_after mouths later a (Some zero) slot four shut = member_shuts mouths later a member.Sender slot (four 0 refl) shut
shuts_after mouths later a (Some (suc zero)) slot four shut = member_shuts mouths later a member.Cleaner slot (four 1 refl) shut
shuts_after mouths later a (Some (suc (suc zero))) slot four shut = member_shuts mouths later a member.LocalSpawner slot (four 2 refl) shut
shuts_after mouths later a (Some (suc (suc (suc zero)))) slot four shut = member_shuts mouths later a member.RemoteSpawner slot (four 3 refl) shut
shuts_after mouths later a (Some (suc (suc (suc (suc i))))) slot four shut = own_shuts mouths later a (Some (suc (suc (suc (suc i))))) slot high shut where
  high : IsNoSeat (Some (suc (suc (suc (suc i)))))
  high k is = let same : suc (suc (suc (suc i))) ≡ k = cc in subst (λ (k : ℕ). 4 ≤ k) same (omega arith)

-- as it is done

-- who runs in that slot has it, at that place
pub in_place : (mouths : List Mouths) (a : List ℕ) (s : ℕ × ℕ) → is_in mouths s a ≡ true → s.0 < length mouths
in_place mouths a s by = let place = place_there a s.1 (slice_get mouths s.0) by in slice_get_within mouths s.0 place.0 place.1

pub runs_there : (mouths : List Mouths) (a : List ℕ) (s : ℕ × ℕ) (m : Mouths) → is_in mouths s a ≡ true → m ≡ get_or mouths s.0 m → (slice_get mouths s.0 ≡ Some m) × (tenant_of m s.1 ≡ Some (Runs a))
runs_there mouths a s m by read =
    let here = stands_at mouths s.0 m (in_place mouths a s by) read in
    (here, ap (λ (o : Option Mouths). tenant_in o s.1) (sym here) ∙ is_it a (tenant_in (slice_get mouths s.0) s.1) by)

pub slot_shut : (mouths : List Mouths) (a : List ℕ) (s : ℕ × ℕ) (m n : Mouths) → is_in mouths s a ≡ true → m ≡ get_or mouths s.0 m → HasOver m n s.1 → OwnIsShut (Some s) a mouths (set mouths s.0 n)
slot_shut mouths a s m n by read over =
    subst (λ (t : Bool). SlotIsShut t s mouths (set mouths s.0 n)) (sym by) (m, n, (runs_there mouths a s m by read).0, refl, over)

pub slot_out : (mouths : List Mouths) (a : List ℕ) (s : ℕ × ℕ) → is_in mouths s a ≡ false → OwnIsShut (Some s) a mouths mouths
slot_out mouths a s out = subst (λ (t : Bool). SlotIsShut t s mouths mouths) (sym out) refl

-- shut by four ports, one after the other
pub shut_each : (giver : Member) (place : ℕ) (m n o p q : Mouths) (one two three four : Bool) → HasShut (λ at. is_port at port.Input && one) m n → HasShut (λ at. is_port at port.Clean && two) n o
    → HasShut (λ at. is_port at port.Lspawn && three) o p → HasShut (λ at. is_port at port.Rspawn && four) p q
    → one ≡ gives_at giver place port.Input → two ≡ gives_at giver place port.Clean → three ≡ gives_at giver place port.Lspawn → four ≡ gives_at giver place port.Rspawn
    → HasShut (gives_at giver place) m q
shut_each giver place m n o p q one two three four a b c d e f g h = record {
  pipes = pipes;
  tenants = λ k. d.tenants k ∙ c.tenants k ∙ b.tenants k ∙ a.tenants k;
  ended = λ k. d.ended k ∙ c.ended k ∙ b.ended k ∙ a.ended k;
  slots = d.slots ∙ c.slots ∙ b.slots ∙ a.slots;
} where
  pipes : (at : Port) → pipe_of q at ≡ (if gives_at giver place at then closed (pipe_of m at) else pipe_of m at)
  pipes port.Input = d.pipes port.Input ∙ c.pipes port.Input ∙ b.pipes port.Input ∙ a.pipes port.Input ∙ ap (λ (t : Bool). if t then closed (pipe_of m port.Input) else pipe_of m port.Input) e
  pipes port.Output = d.pipes port.Output ∙ c.pipes port.Output ∙ b.pipes port.Output ∙ a.pipes port.Output
  pipes port.Clean =
      d.pipes port.Clean ∙ c.pipes port.Clean ∙ b.pipes port.Clean ∙ ap (λ (pipe : Pipe). if two then closed pipe else pipe) (a.pipes port.Clean)
      ∙ ap (λ (t : Bool). if t then closed (pipe_of m port.Clean) else pipe_of m port.Clean) f
  pipes port.Lspawn =
      d.pipes port.Lspawn ∙ c.pipes port.Lspawn ∙ ap (λ (pipe : Pipe). if three then closed pipe else pipe) (b.pipes port.Lspawn ∙ a.pipes port.Lspawn)
      ∙ ap (λ (t : Bool). if t then closed (pipe_of m port.Lspawn) else pipe_of m port.Lspawn) g
  pipes port.Rspawn =
      d.pipes port.Rspawn ∙ ap (λ (pipe : Pipe). if four then closed pipe else pipe) (c.pipes port.Rspawn ∙ b.pipes port.Rspawn ∙ a.pipes port.Rspawn)
      ∙ ap (λ (t : Bool). if t then closed (pipe_of m port.Rspawn) else pipe_of m port.Rspawn) h
  pipes port.Todo = d.pipes port.Todo ∙ c.pipes port.Todo ∙ b.pipes port.Todo ∙ a.pipes port.Todo
  pipes (port.Program k) = d.pipes (port.Program k) ∙ c.pipes (port.Program k) ∙ b.pipes (port.Program k) ∙ a.pipes (port.Program k)
  pipes (port.Status k) = d.pipes (port.Status k) ∙ c.pipes (port.Status k) ∙ b.pipes (port.Status k) ∙ a.pipes (port.Status k)
