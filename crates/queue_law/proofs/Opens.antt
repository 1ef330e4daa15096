-- What an actor holds open after a call that only reads.
use Rattle.std.proofs.Common.{◌≡◌, ◌≢◌, ℕ, List, Option, Some, None, IsSome, option_map, refl, sym, ap, ◌∙◌}
use Rattle.call_fs.specs.declared.calls.CallData.{CallData}
use Rattle.call_fs.specs.declared.calls.CallData.TheVariants.{Open, ReadAt, Close, Stat, NextName}
use Rattle.call_fs.specs.declared.calls.Answer.{Answer}
use Rattle.call_fs.specs.declared.calls.Answer.TheVariants as answer
use Rattle.call_fs.specs.declared.calls.Fd.{Fd}
use Rattle.call_fs.specs.declared.calls.How.{How}
use Rattle.call_fs.specs.declared.modes.Mode.{Mode}
use Rattle.call_fs.specs.Disk.{Open as OpenFile}
use Rattle.call_fs.specs.Apply.{Fits}
use Rattle.call_fs.proofs.Maps.{put_same, put_other}
use Rattle.queue_law.specs.Numbers.{Queue}
use Rattle.queue_law.specs.Injectors.{IsHeld}
use Rattle.queue_law.specs.Senders.{called_queue, OnlyReads}
use Rattle.queue_law.proofs.Tests.{off}

some_of : {A : Type 0} (o : Option A) → IsSome o → (x : A) × (o ≡ Some x)
some_of None h = absurd (off h)
some_of (Some x) h = (x, refl)

pub opened_held : (q : Queue) (a : List ℕ) (read : ℕ) (name : List ℕ) (how : How) (fd : Fd) (wrote : ℕ) → Fits q.disk (Open name how) (answer.Opened fd) wrote
    → (i : ℕ) × (q.disk.names name ≡ Some i)
    × IsHeld (called_queue q a read (Open name how) (answer.Opened fd) wrote q.role).disk.opens (called_queue q a read (Open name how) (answer.Opened fd) wrote q.role).holder a fd.0
    (record { number = i; mode = Mode.Opened how })
opened_held q a read name how fd wrote fits =
    let w = some_of (q.disk.names name) fits.there in (
      w.0,
      w.1,
      record {
        opened = put_same q.disk.opens fd.0 _ ∙ ap (option_map (λ n. record { number = n; mode = Mode.Opened how })) w.1;
        held = put_same q.holder fd.0 (Some a);
      },
    )

pub held_on : (q : Queue) (a : List ℕ) (read : ℕ) (call : CallData) (told : Answer) (wrote : ℕ) → OnlyReads q a call → Fits q.disk call told wrote
    → (fd : ℕ) (how : OpenFile) → IsHeld q.disk.opens q.holder a fd how → ((f : Fd) → call ≡ Close f → f.0 ≢ fd)
    → IsHeld (called_queue q a read call told wrote q.role).disk.opens (called_queue q a read call told wrote q.role).holder a fd how
held_on q a read (Open name mode) (answer.Opened fd) wrote may fits k how h kept =
    let w = fits.not_open in
    let far : k ≢ fd.0 = λ same. let v : q.disk.opens k ≡ q.disk.opens fd.0 = ap q.disk.opens same in let u = h.opened in absurd (cc) in
    record { opened = put_other q.disk.opens fd.0 _ k far ∙ h.opened; held = put_other q.holder fd.0 _ k far ∙ h.held }
held_on q a read (Open name mode) (answer.Refused why) wrote may fits k how h kept = h
held_on q a read (Open name mode) told wrote may fits k how h kept = absurd fits
held_on q a read (ReadAt fd at len) (answer.Count count) wrote may fits k how h kept = h
held_on q a read (ReadAt fd at len) (answer.Refused why) wrote may fits k how h kept = h
held_on q a read (ReadAt fd at len) told wrote may fits k how h kept = absurd fits
held_on q a read (Close fd) answer.Done wrote may fits k how h kept =
    let far : k ≢ fd.0 = λ same. kept fd refl (sym same) in
    record { opened = put_other q.disk.opens fd.0 _ k far ∙ h.opened; held = put_other q.holder fd.0 _ k far ∙ h.held }
held_on q a read (Close fd) told wrote may fits k how h kept = absurd fits
held_on q a read (Stat name) (answer.Stat stat) wrote may fits k how h kept = h
held_on q a read (Stat name) (answer.Refused why) wrote may fits k how h kept = h
held_on q a read (Stat name) told wrote may fits k how h kept = absurd fits
held_on q a read (NextName dir after) (answer.Name name) wrote may fits k how h kept = h
held_on q a read (NextName dir after) answer.NoName wrote may fits k how h kept = h
held_on q a read (NextName dir after) (answer.Refused why) wrote may fits k how h kept = h
held_on q a read (NextName dir after) told wrote may fits k how h kept = absurd fits
held_on q a read call told wrote may fits k how h kept = absurd may
