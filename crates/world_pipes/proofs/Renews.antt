-- A new generation: its members have new pipes at the first four places, and the deliveries keep theirs.
use Rattle.std.proofs.Common.{◌≡◌, ◌⊎◌, ℕ, zero, suc, ◌<◌, ◌≤◌, List, length, Bool, true, false, Option, Some, None, refl, sym, ap, ◌∙◌, inl, inr, ⊎_elim, arith, codes, [], ◌∷◌, All, subst}
use Rattle.std.specs.Prelude.{if◌then◌else◌}
use Rattle.std.specs.List.{slice_get}
use Rattle.std.proofs.lemmas.Bool.{lt-ltb}
use Rattle.std.proofs.lemmas.Bool.Decides.{leb_tells}
use Rattle.std.proofs.lemmas.List.Elements.{All-head, All-tail}
use Rattle.std.proofs.lemmas.Option.{slice_get_within}
use Rattle.call_fs.specs.declared.program.Port.{Port}
use Rattle.world_pipes.specs.declared.mouths.Mouths.{Mouths}
use Rattle.world_pipes.specs.Mouths.{tenant_of}
use Rattle.world_pipes.specs.Pipework.{Pipework, Tenant, fresh, is_member, with_generation}
use Rattle.world_pipes.specs.Pipework.Tenant.{Runs}
use Rattle.world_pipes.specs.Wired.{pipe_in, tenant_in, kept_at, AreWired, HaveChildren, AreOver, HaveSlots}
use Rattle.world_pipes.specs.Seating.{IsFresh, AreFresh, AreRenewed}
use Rattle.world_pipes.proofs.Lists.{some_within}
use Rattle.world_pipes.proofs.Members.{whether}
use Rattle.world_pipes.proofs.Seats.{seat_low}

low_or : (i : ℕ) → (i < 4) ⊎ (4 ≤ i)
low_or i = ⊎_elim (λ f. inr f.1) (λ f. inl f.1) (leb_tells 4 i)

-- nobody had any pipes
all_at : {X : Type 0} (P : X → Type 0) (xs : List X) (i : ℕ) (x : X) → All P xs → slice_get xs i ≡ Some x → P x
all_at P [] i x all at = absurd (cc)
all_at P (y ∷ ys) zero x all at = let same : y ≡ x = cc in subst P same (All-head P y ys all)
all_at P (y ∷ ys) (suc i) x all at = all_at P ys i x (All-tail P y ys all) at

past_end : {X : Type 0} (xs : List X) (i : ℕ) → length xs ≤ i → slice_get xs i ≡ None
past_end [] i high = refl
past_end (x ∷ xs) zero high = absurd (omega (arith, high))
past_end (x ∷ xs) (suc i) high = past_end xs i (omega (arith, high))

pub renewed_first : (old fresh : List Mouths) → length old ≡ 0 → AreFresh fresh → AreRenewed old fresh
renewed_first old fresh none new = let many = new.many in record {
  four = omega (arith, many);
  members = λ i m low at. all_at IsFresh fresh i m new.each at;
  others = λ i high. past_end fresh i (omega (arith, many, high)) ∙ sym (past_end old i (omega (arith, none)));
}

module _ (wires : List ℕ → Option ℕ) (mouths later : List Mouths) (w : Pipework) (wired : AreWired wires mouths w) (new : AreRenewed mouths later) where
  fresh_pipe : (j : ℕ) (q : Port) → j < 4 → pipe_in (slice_get later j) q ≡ fresh
  fresh_pipe j q low = by_mouths (slice_get later j) (λ m. new.members j m low) where
    by_mouths : (o : Option Mouths) → ((m : Mouths) → o ≡ Some m → IsFresh m) → pipe_in o q ≡ fresh
    by_mouths None each = refl
    by_mouths (Some m) each = (each m refl).pipes q

  fresh_tenant : (j d : ℕ) → j < 4 → tenant_in (slice_get later j) d ≡ None
  fresh_tenant j d low = by_mouths (slice_get later j) (λ m. new.members j m low) where
    by_mouths : (o : Option Mouths) → ((m : Mouths) → o ≡ Some m → IsFresh m) → tenant_in o d ≡ None
    by_mouths None each = refl
    by_mouths (Some m) each = (each m refl).tenants d

  low_seat : (b : List ℕ) (j : ℕ) → is_member b ≡ true → wires b ≡ Some j → j < 4
  low_seat b j member of = seat_low b j (sym (wired.seats b member) ∙ of)

  renewed_programs : (b : List ℕ) (d : ℕ) → (with_generation w).programs b d ≡ tenant_in (kept_at (wires b) later) d
  renewed_programs b d = ⊎_elim
      (λ member. ap (λ (t : Bool). if t then None else w.programs b d) member ∙ sym (none_in (wires b) refl member))
      (λ other. ap (λ (t : Bool). if t then None else w.programs b d) other ∙ wired.programs b d ∙ same_in (wires b) refl other)
      (whether (is_member b))
    where
      none_in : (o : Option ℕ) → wires b ≡ o → is_member b ≡ true → tenant_in (kept_at o later) d ≡ None
      none_in None of member = refl
      none_in (Some j) of member = fresh_tenant j d (low_seat b j member of)

      same_in : (o : Option ℕ) → wires b ≡ o → is_member b ≡ false → tenant_in (kept_at o mouths) d ≡ tenant_in (kept_at o later) d
      same_in None of other = refl
      same_in (Some j) of other = sym (ap (λ (o : Option Mouths). tenant_in o d) (new.others j (wired.others b j of other).high))

  pub renewed_ran : (b : List ℕ) (d : ℕ) (c : List ℕ) → (with_generation w).programs b d ≡ Some (Runs c) → (is_member b ≡ false) × (w.programs b d ≡ Some (Runs c))
  renewed_ran b d c runs = ⊎_elim
      (λ member. let both : ◌≡◌ {A = Option Tenant} None (Some (Runs c)) = sym (ap (λ (t : Bool). if t then None else w.programs b d) member) ∙ runs in absurd (cc))
      (λ other. (other, sym (ap (λ (t : Bool). if t then None else w.programs b d) other) ∙ runs))
      (whether (is_member b))

  seat_owner : (j : ℕ) → j < 4 → (a : List ℕ) × (wires a ≡ Some j)
  seat_owner zero low = (codes "sender", wired.seats (codes "sender") refl)
  seat_owner (suc zero) low = (codes "clean", wired.seats (codes "clean") refl)
  seat_owner (suc (suc zero)) low = (codes "lspawn", wired.seats (codes "lspawn") refl)
  seat_owner (suc (suc (suc zero))) low = (codes "rspawn", wired.seats (codes "rspawn") refl)
  seat_owner (suc (suc (suc (suc j)))) low = absurd (omega (arith, low))

  owner : (j : ℕ) → j < length later → (a : List ℕ) × (wires a ≡ Some j)
  owner j low = ⊎_elim
      (λ first. seat_owner j first)
      (λ high. let m = some_within later j low in wired.owned j (slice_get_within mouths j m.0 (sym (new.others j high) ∙ m.1)))
      (low_or j)

  pub wired_renews : AreWired wires later (with_generation w)
  wired_renews = record {
    pipes = λ b j q of own. ⊎_elim
        (λ member. ap (λ (t : Bool). if t then fresh else w.pipes b q) member ∙ sym (fresh_pipe j q (low_seat b j member of)))
        (λ other. ap (λ (t : Bool). if t then fresh else w.pipes b q) other ∙ wired.pipes b j q of own ∙ sym (ap (λ (o : Option Mouths). pipe_in o q) (new.others j (wired.others b j of other).high)))
        (whether (is_member b));
    programs = renewed_programs;
    seats = wired.seats;
    members = wired.members;
    others = λ b j of other. let was = wired.others b j of other in record { high = was.high; number = was.number; slot = was.slot };
    within = λ b j of other.
        let high = (wired.others b j of other).high in
        let m = some_within mouths j (wired.within b j of other) in
        slice_get_within later j m.0 (new.others j high ∙ m.1);
    apart = wired.apart;
    owned = owner;
    children = λ b d c runs. wired.children b d c (renewed_ran b d c runs).1;
  }

  pub slots_renew : HaveSlots mouths → HaveSlots later
  slots_renew slots j m at = ⊎_elim
      (λ first. (new.members j m first at).slots ∙ sym (ap (λ (t : Bool). if t then 256 else 1) (lt-ltb j 4 first)))
      (λ high. slots j m (sym (new.others j high) ∙ at))
      (low_or j)

  -- who runs in a slot then ran there before, at a place after the members'
  pub renewed_in : (j : ℕ) (m : Mouths) (d : ℕ) (c : List ℕ) → slice_get later j ≡ Some m → tenant_of m d ≡ Some (Runs c) → (4 ≤ j) × (slice_get mouths j ≡ Some m)
  renewed_in j m d c at runs = ⊎_elim
      (λ first. let both : ◌≡◌ {A = Option Tenant} None (Some (Runs c)) = sym ((new.members j m first at).tenants d) ∙ runs in absurd (cc))
      (λ high. (high, sym (new.others j high) ∙ at))
      (low_or j)

  pub children_renew : HaveChildren mouths → HaveChildren later
  children_renew children j m d c at runs = children j m d c (renewed_in j m d c at runs).1 runs

  pub over_renew : (gone now : List ℕ → Bool) → ((c : List ℕ) → is_member c ≡ false → now c ≡ gone c) → HaveChildren mouths → AreOver gone mouths → AreOver now later
  over_renew gone now same children over j m d c at runs =
      let was = (renewed_in j m d c at runs).1 in
      over j m d c was runs ∙ sym (same c (children j m d c was runs).1)
