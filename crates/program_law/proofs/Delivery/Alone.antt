-- What others leave a delivery.
use Rattle.std.proofs.Common.{◌≡◌, ◌≢◌, ℕ, List, Option, Some, None, sym, ◌∙◌, subst}
use Rattle.std.specs.Prelude.{IfSome}
use Rattle.call_fs.specs.declared.calls.Fd.{Fd}
use Rattle.call_fs.specs.declared.past.Own.{Own}
use Rattle.call_fs.specs.Disk.{Open}
use Rattle.local_deliver.specs.declared.place.Place.{Place}
use Rattle.local_deliver.specs.Table.{place_after}
use Rattle.local_deliver.specs.Drops.{Drop}
use Rattle.local_deliver.specs.Writes.{Writes, at_work}
use Rattle.local_deliver.proofs.Whole.{writes_still}
use Rattle.local_parts.specs.declared.arguments.LocalArgs.{LocalArgs}
use Rattle.maildir_drop.specs.declared.names.DropNames.{DropNames}
use Rattle.maildir_drop.specs.declared.row.Row.{Row}
use Rattle.maildir_drop.specs.declared.row.Row.TheVariants as at
use Rattle.maildir_drop.specs.Names.{pair_at}
use Rattle.maildir_drop.specs.Rests.{IsKept, IsKeptOpen, LeavesAlone}
use Rattle.queue_law.specs.Injectors.{IsHeld, created}
use Rattle.queue_law.specs.Numbers.{Queue}
use Rattle.program_law.specs.Delivery.Laws.{DeliveriesAreLeftAlone}
use Rattle.program_law.specs.Delivery.Leaves.{LeavesTmp}
use Rattle.program_law.specs.Delivery.Names.{IsTmpName}
use Rattle.program_law.specs.Delivery.Rests.{DeliveryRests, HasDrop, HasFile, HasNamed, HasWritten}
use Rattle.program_law.proofs.Delivery.Placed.{AreInTmp, in_tmp}

both_so : {X : Type 0} (o : Option X) (P Q R : X → Type 0) → ((x : X) → P x → Q x → R x) → IfSome o P → IfSome o Q → IfSome o R
both_so None P Q R f p q = tt
both_so (Some x) P Q R f p q = f x p q

same_open : (x y : Open) → ◌≡◌ {A = Option Open} (Some x) (Some y) → x ≡ y
same_open x y e = cc

module _ (q r : Queue) (a b : List ℕ) (L : LeavesTmp b q r) (far : a ≢ b)
    (opens : (fd : ℕ) (how : Open) → IsHeld q.disk.opens q.holder a fd how → IsHeld r.disk.opens r.holder a fd how) where
  named : (name : List ℕ) → IsTmpName name → HasNamed q a name → HasNamed r a name
  named name t h = (h.0, L.stays a name h.0 far t h.1)

  written : (name : List ℕ) (fd : ℕ) → IsTmpName name → HasWritten q a name fd → HasWritten r a name fd
  written name fd t h = (h.0, L.stays a name h.0 far t h.1, opens fd (created h.0) h.2)

  has_file : (names : DropNames) (row : Row) → AreInTmp names → HasFile q a names row → HasFile r a names row
  has_file names (at.Create attempt) t h = tt
  has_file names (at.Append attempt fd) t h = written (pair_at names attempt).tmp fd.0 (t attempt) h
  has_file names (at.Sync attempt fd) t h = written (pair_at names attempt).tmp fd.0 (t attempt) h
  has_file names (at.Close attempt fd) t h = written (pair_at names attempt).tmp fd.0 (t attempt) h
  has_file names (at.Shut attempt fd reason) t h = written (pair_at names attempt).tmp fd.0 (t attempt) h
  has_file names (at.Link attempt) t h = named (pair_at names attempt).tmp (t attempt) h
  has_file names (at.Unlink attempt outcome) t h = named (pair_at names attempt).tmp (t attempt) h
  has_file names (at.Ended attempt outcome) t h = tt

  -- so its file is as it was
  kept : (name : List ℕ) → IsTmpName name → HasNamed q a name → IsKept name q.disk r.disk
  kept name t h k there =
      let its = h.1.there in
      let same : h.0 ≡ k = cc in
      subst (λ n. (r.disk.names name ≡ Some n) × (r.disk.files n ≡ q.disk.files n)) same ((L.stays a name h.0 far t h.1).there, L.files a name h.0 far t h.1)

  kept_open : (name : List ℕ) (fd : Fd) → IsTmpName name → HasWritten q a name fd.0 → IsKeptOpen name fd q.disk r.disk
  kept_open name fd t h = (
    kept name t (h.0, h.1),
    λ how is.
        let same : created h.0 ≡ how = same_open (created h.0) how (sym h.2.opened ∙ is) in
        subst (λ (o : Open). r.disk.opens fd.0 ≡ Some o) same (opens fd.0 (created h.0) h.2).opened,
  )

  alone : (names : DropNames) (row : Row) → AreInTmp names → HasFile q a names row → LeavesAlone names row q.disk r.disk
  alone names (at.Create attempt) t h = tt
  alone names (at.Append attempt fd) t h = kept_open (pair_at names attempt).tmp fd (t attempt) h
  alone names (at.Sync attempt fd) t h = kept_open (pair_at names attempt).tmp fd (t attempt) h
  alone names (at.Close attempt fd) t h = kept (pair_at names attempt).tmp (t attempt) (h.0, h.1)
  alone names (at.Shut attempt fd reason) t h = tt
  alone names (at.Link attempt) t h = kept (pair_at names attempt).tmp (t attempt) h
  alone names (at.Unlink attempt outcome) t h = tt
  alone names (at.Ended attempt outcome) t h = tt

  rests_still : (args : LocalArgs) (past : List Own) → DeliveryRests q a args past → DeliveryRests r a args past
  rests_still args past R =
      let p : Place = place_after args past in
      let its : Option Drop = at_work p.row p.dropping in
      record {
        run = R.run;
        writes = writes_still args past q.disk r.disk
            (both_so its (Writes args past q.disk) (HasDrop q a) (λ it. LeavesAlone it.names it.place.row q.disk r.disk)
            (λ it w h. alone it.names it.place.row (in_tmp args past q.disk it w) h) R.writes R.drop)
            R.writes;
        drop = both_so its (Writes args past q.disk) (HasDrop q a) (HasDrop r a) (λ it w h. has_file it.names it.place.row (in_tmp args past q.disk it w) h) R.writes R.drop;
        holds = λ fd mode is. let h = R.holds fd mode is in (h.0, opens fd (record { number = h.0; mode = mode }) h.1);
      }

pub deliveries_are_left_alone : DeliveriesAreLeftAlone
deliveries_are_left_alone q r a b args past L far opens R = rests_still q r a b L far opens args past R
