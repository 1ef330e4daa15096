-- Runs that begin, go on and end.
use Rattle.std.proofs.Common.{◌≡◌, ℕ, ◌+◌, ◌≤◌, List, [], ◌∷◌, Option, Some, None, Result, Ok, Err, OnErr, refl, subst, arith}
use Rattle.std.specs.declared.alloc.AllocError.{AllocError}
use Rattle.call_fs.specs.declared.program.Ready.{Ready}
use Rattle.call_fs.specs.declared.past.Own.{Own}
use Rattle.call_fs.specs.Past.{Table, IsRunBy}
use Rattle.program_runner.specs.Outside.{Outside}
use Rattle.program_runner.specs.Runs.{Change, IsRunning, HasRun, IsTurn, GoesOn, HasEnded, MayTurn, IsPlain}
use Rattle.program_runner.proofs.Deeds.{did_nothing, did_more, open_after}

module _ {A : Type 0} (next : A → Table) (ready : Ready) (start : ℕ) where
  pub begins : (stands : A → List Own → Type 0) (possible : A → Type 0) (o : Outside) → ((args : A) → possible args → stands args []) → start ≤ o.last
      → IsRunning next stands possible ready start 0 o o
  begins stands possible o new later = record {
    past = [];
    long = refl;
    finds = tt;
    holds = new;
    run = λ args is. tt;
    did = did_nothing start o later;
  }

  -- it may stand for more, and fewer arguments may be possible
  pub narrows : (before after : A → List Own → Type 0) (was possible : A → Type 0) (turns : ℕ) (old now : Outside)
      → ((args : A) → possible args → was args) → ((args : A) (past : List Own) → possible args → before args past → after args past)
      → IsRunning next before was ready start turns old now → IsRunning next after possible ready start turns old now
  narrows before after was possible turns old now fewer on r = record {
    past = r.past;
    long = r.long;
    finds = r.finds;
    holds = λ args is. on args r.past is (r.holds args (fewer args is));
    run = λ args is. r.run args (fewer args is);
    did = r.did;
  }

  pub goes_on : (before after : A → List Own → Type 0) (change : Change) (possible : A → Type 0) (turns : ℕ) (old mid new : Outside)
      → IsRunning next before possible ready start turns old mid → GoesOn next before after change ready mid new → IsRunning next after possible ready start (turns + 1) old new
  goes_on before after change possible turns old mid new r g =
      let found = g.found in
      record {
        past = g.event ∷ r.past;
        long = let long = r.long in omega arith;
        finds = (found, r.finds);
        holds = λ args is. g.stands args r.past (r.holds args is);
        run = λ args is. (r.run args is, (g.due args r.past (r.holds args is), g.came));
        did = did_more start r.past g.event old mid new r.did g.does;
      }

  -- memory ran out at what came of one event more
  pub cut_short : {X : Type 0} (before : A → List Own → Type 0) (change : Change) (possible : A → Type 0) (turns : ℕ) (old mid new : Outside) (result : Result X AllocError)
      → IsRunning next before possible ready start turns old mid → GoesOn next before (λ args past. Unit {0}) change ready mid new
      → OnErr result ((turns : ℕ) × IsRunning next (λ args past. Unit {0}) possible ready start turns old new)
  cut_short before change possible turns old mid new (Ok x) r g = tt
  cut_short before change possible turns old mid new (Err why) r g = (turns + 1, goes_on before (λ args past. Unit {0}) change possible turns old mid new r g)

  pub as_long : (stands : A → List Own → Type 0) (possible : A → Type 0) (turns most : ℕ) (old now : Outside) → turns ≡ most
      → IsRunning next stands possible ready start turns old now → IsRunning next stands possible ready start most old now
  as_long stands possible turns most old now is r = subst (λ n. IsRunning next stands possible ready start n old now) is r

  pub ends : (stands : A → List Own → Type 0) (possible : A → Type 0) (turns status : ℕ) (old mid new : Outside)
      → IsRunning next stands possible ready start turns old mid → HasEnded next stands ready status mid new → HasRun next possible ready start status old new
  ends stands possible turns status old mid new r e = record {
    past = r.past;
    last = e.read;
    finds = r.finds;
    run = r.run;
    ends = λ args is. e.due args r.past (r.holds args is);
    before_last = mid;
    did = r.did;
    looks = e.looks;
  }

  -- it may take a turn
  pub may_turn : (stands : A → List Own → Type 0) (possible : A → Type 0) (turns : ℕ) (old now : Outside) (args : A) → possible args
      → ((args : A) (past : List Own) (read : ℕ) → IsRunBy (next args) past → IsPlain (next args past read ready))
      → IsRunning next stands possible ready start turns old now → MayTurn next stands ready now.disk
  may_turn stands possible turns old now args is plain r = record {
    args = args;
    past = r.past;
    is = r.holds args is;
    run = r.run args is;
    plain = λ read. plain args r.past read (r.run args is);
    backed = open_after r.past old.disk now.disk r.did.disk;
  }

  -- after one turn more, by what it answered
  pub turned_on : (before after : A → List Own → Type 0) (change : Change) (possible : A → Type 0) (turns : ℕ) (old mid new : Outside) (ended : Option ℕ) → ended ≡ None
      → IsRunning next before possible ready start turns old mid → IsTurn next before after change ready ended mid new → IsRunning next after possible ready start (turns + 1) old new
  turned_on before after change possible turns old mid new ended is r t =
      goes_on before after change possible turns old mid new r (subst (λ e. IsTurn next before after change ready e mid new) is t)

  pub turned_to_end : (before after : A → List Own → Type 0) (change : Change) (possible : A → Type 0) (turns : ℕ) (old mid new : Outside) (ended : Option ℕ) (status : ℕ) → ended ≡ Some status
      → IsRunning next before possible ready start turns old mid → IsTurn next before after change ready ended mid new → HasRun next possible ready start status old new
  turned_to_end before after change possible turns old mid new ended status is r t =
      ends before possible turns status old mid new r (subst (λ e. IsTurn next before after change ready e mid new) is t)
