-- An injector that is fed from its sources and takes its turns, to its end.
use Rattle.std.proofs.Common.{◌≡◌, ℕ, ◌≤◌, List, [], Option, Some, None, refl, sym, subst, arith}
use Rattle.call_fs.specs.declared.program.TheConstants.{INPUT_READY}
use Rattle.queue_inject.specs.declared.injection.Arguments.{Arguments}
use Rattle.call_fs.specs.declared.past.Own.{Own}
use Rattle.queue_inject.specs.declared.injection.Part.{Part}
use Rattle.queue_inject.specs.declared.injection.Part.TheVariants.{Message, Envelope}
use Rattle.queue_inject.specs.declared.row.Row.TheVariants as at
use Rattle.queue_inject.specs.Table.{Next}
use Rattle.queue_inject.specs.Machine.{Machine, asks}
use Rattle.queue_inject.specs.Stands.{Stands, IsStartedBy}
use Rattle.program_runner.specs.Outside.{Outside as Around}
use Rattle.program_runner.specs.Runs.{IsTurn, MayTurn}
use Rattle.queue_command.specs.declared.input.Form.{Form}
use Rattle.queue_command.specs.declared.input.Form.TheVariants.{Beside, Netstrings}
use Rattle.queue_command.specs.declared.netstring.Place.{Place}
use Rattle.queue_command.specs.declared.netstring.Place.TheVariants.{Head}
use Rattle.queue_command.specs.Inputs.{Heard, Stream, unread, AreRead}
use Rattle.queue_command.specs.Feeding.{FeedsBy}
use Rattle.queue_command.specs.Runs.{Who}
use Rattle.queue_command.specs.Injected.{HasInjectedFrom}
use Rattle.queue_command.proofs.Keeping.{heard_on}
use Rattle.queue_command.proofs.Portions.{feeds_on, nothing_read}
use Rattle.queue_command.proofs.Going.{IsGoing, Became, part_of, goes_new, goes_fed, goes_may, goes_turned, goes_to_end}

-- An injector that goes on, and what was heard of its input was read of its sources.
pub record IsInjecting (who : Who) (start : ℕ) (form : Form) (place : Place) (m : Machine) (from beside : Stream) (old now : Around) : Type 0 where
  pub heard : Heard
  pub going : IsGoing who start m heard old now
  pub read : AreRead form place from beside heard
  pub from_counts : from.faults_old ≤ from.faults_new
  pub beside_counts : beside.faults_old ≤ beside.faults_new

module _ (who : Who) (start : ℕ) (form : Form) where
  pub injects : (m : Machine) (from beside : Option (List ℕ)) (f g : ℕ) (o : Around) → start ≤ o.last → m.row ≡ at.Create 1 → m.heard.fed ≡ 0
      → ((args : Arguments) → IsStartedBy args who.uid who.pid who.invoked start → Stands m args [])
      → IsInjecting who start form Head m (record { old = from; new = from; faults_old = f; faults_new = f }) (record { old = beside; new = beside; faults_old = g; faults_new = g }) o o
  injects m from beside f g o later row fed stands = record {
    heard = record { message = unread; envelope = unread };
    going = goes_new who start m o later row fed stands;
    read = nothing_read form from beside f g;
    from_counts = omega arith;
    beside_counts = omega arith;
  }

  -- It is fed

  module _ (p q : Place) (m n : Machine) (from0 from1 from2 beside0 beside1 beside2 : Option (List ℕ)) (f0 f1 f2 g0 g1 g2 : ℕ) (old now : Around) where
    abbrev Before : Type 0
    Before = IsInjecting who start form p m (record { old = from0; new = from1; faults_old = f0; faults_new = f1 }) (record { old = beside0; new = beside1; faults_old = g0; faults_new = g1 }) old now

    abbrev After : Type 0
    After = IsInjecting who start form q n (record { old = from0; new = from2; faults_old = f0; faults_new = f2 }) (record { old = beside0; new = beside2; faults_old = g0; faults_new = g2 }) old now

    fed_part : (part : Part) → asks m ≡ Some part → f1 ≤ f2 → g1 ≤ g2 → Before
        → FeedsBy (Some part) form p q m n (record { old = from1; new = from2; faults_old = f1; faults_new = f2 }) (record { old = beside1; new = beside2; faults_old = g1; faults_new = g2 })
        → After
    fed_part part e late later b feeds =
        let on = feeds_on form part p q m n from0 from1 from2 beside0 beside1 beside2 f0 f1 f2 g0 g1 g2 b.heard b.from_counts b.beside_counts e b.going.keeps b.read feeds in
        record {
          heard = heard_on part b.heard on.more;
          going = goes_fed who start m n b.heard part on.more old now e on.fed b.going;
          read = on.read;
          from_counts = let c = b.from_counts in omega arith;
          beside_counts = let c = b.beside_counts in omega arith;
        }

    fed_nothing : FeedsBy None form p q m n (record { old = from1; new = from2; faults_old = f1; faults_new = f2 }) (record { old = beside1; new = beside2; faults_old = g1; faults_new = g2 })
        → Before → After
    fed_nothing (machine, place, from, beside) b =
        subst (λ x. IsInjecting who start form q x (record { old = from0; new = from2; faults_old = f0; faults_new = f2 }) (record { old = beside0; new = beside2; faults_old = g0; faults_new = g2 }) old now) (sym machine)
        (subst (λ x. IsInjecting who start form x m (record { old = from0; new = from2; faults_old = f0; faults_new = f2 }) (record { old = beside0; new = beside2; faults_old = g0; faults_new = g2 }) old now) (sym place)
        (subst (λ x. IsInjecting who start form p m (record { old = from0; new = x; faults_old = f0; faults_new = f2 }) (record { old = beside0; new = beside2; faults_old = g0; faults_new = g2 }) old now) (sym from.left)
        (subst (λ x. IsInjecting who start form p m (record { old = from0; new = from1; faults_old = f0; faults_new = x }) (record { old = beside0; new = beside2; faults_old = g0; faults_new = g2 }) old now) (sym from.faults)
        (subst (λ x. IsInjecting who start form p m (record { old = from0; new = from1; faults_old = f0; faults_new = f1 }) (record { old = beside0; new = x; faults_old = g0; faults_new = g2 }) old now) (sym beside.left)
        (subst (λ x. IsInjecting who start form p m (record { old = from0; new = from1; faults_old = f0; faults_new = f1 }) (record { old = beside0; new = beside1; faults_old = g0; faults_new = x }) old now) (sym beside.faults) b)))))

    -- what is left has failed no more often
    same_count : (a b : ℕ) → b ≡ a → a ≤ b
    same_count a b is = omega arith

    counts : (form : Form) (part : Part)
        → FeedsBy (Some part) form p q m n (record { old = from1; new = from2; faults_old = f1; faults_new = f2 }) (record { old = beside1; new = beside2; faults_old = g1; faults_new = g2 })
        → (f1 ≤ f2) × (g1 ≤ g2)
    counts Beside Message (x, left) = (x.counts, same_count g1 g2 left.faults)
    counts Beside Envelope (left, x) = (same_count f1 f2 left.faults, x.counts)
    counts Netstrings Message (x, left) = (x.counts, same_count g1 g2 left.faults)
    counts Netstrings Envelope (x, left) = (x.counts, same_count g1 g2 left.faults)

    by_part : (o : Option Part) → asks m ≡ o → Before
        → FeedsBy o form p q m n (record { old = from1; new = from2; faults_old = f1; faults_new = f2 }) (record { old = beside1; new = beside2; faults_old = g1; faults_new = g2 })
        → After
    by_part None e b feeds = fed_nothing feeds b
    by_part (Some part) e b feeds = let c = counts form part feeds in fed_part part e c.0 c.1 b feeds

    pub fed_on : Before
        → FeedsBy (asks m) form p q m n (record { old = from1; new = from2; faults_old = f1; faults_new = f2 }) (record { old = beside1; new = beside2; faults_old = g1; faults_new = g2 })
        → After
    fed_on = by_part (asks m) refl

  -- It takes a turn

  pub may : (place : Place) (m : Machine) (from beside : Stream) (old mid : Around) → IsInjecting who start form place m from beside old mid → MayTurn Next (Stands m) INPUT_READY mid.disk
  may place m from beside old mid b = goes_may who start m b.heard old mid b.going

  module _ (place : Place) (m n : Machine) (from beside : Stream) (old mid new : Around) (b : IsInjecting who start form place m from beside old mid) where
    abbrev Turns : Option ℕ → Type 0
    Turns ended = IsTurn Next (Stands m) (Stands n) (Became m n) INPUT_READY ended mid new

    pub turned : (ended : Option ℕ) → ended ≡ None → Turns ended → IsInjecting who start form place n from beside old new
    turned ended none t = record {
      heard = b.heard;
      going = goes_turned who start m n b.heard old mid new b.going ended none t;
      read = b.read;
      from_counts = b.from_counts;
      beside_counts = b.beside_counts;
    }

    -- It has ended

    pub injected : (ended : Option ℕ) (status : ℕ) → ended ≡ Some status → Turns ended
        → HasInjectedFrom who start form from beside (part_of old) (part_of new) status
    injected ended status is t = record {
      place = place;
      heard = b.heard;
      input = b.read;
      ran = goes_to_end who start m n b.heard old mid new b.going ended status is t;
    }
