-- What the sender's givings and takings leave of the two pipes to and from its cleaner, and of the slots.
use Rattle.std.proofs.Common.{◌≡◌, ◌≢◌, ℕ, ◌==◌, List, false, ◌&&◌, Some, refl, ap, bytes_eq, codes}
use Rattle.std.specs.Prelude.{take}
use Rattle.call_fs.specs.declared.past.GotData.{GotData}
use Rattle.call_fs.specs.declared.past.GotData.TheVariants as got
use Rattle.call_fs.specs.declared.past.NeedData.TheVariants as needs
use Rattle.call_fs.specs.declared.program.Port.{Port}
use Rattle.call_fs.specs.declared.program.Port.TheVariants as port
use Rattle.world_pipes.specs.Pipework.{Pipe, Pipework, Tenant, child_output, closed, given, gives, is_port, mouth, pipework_after, taken}
use Rattle.world_pipes.specs.Pipework.Tenant.{Runs}
use Rattle.world_law.proofs.Moved.{IsSameLink}
use Rattle.world_law.proofs.Pipes.{away_same, child_away, input_same}
use Rattle.world_law.proofs.Tenants.{not_freed}

-- no program more runs in a slot
abbrev pub NoTenantMore : Pipework → Pipework → Type 0
NoTenantMore before w = (a : List ℕ) (d : ℕ) (t : Tenant) → w.programs a d ≡ Some t → before.programs a d ≡ Some t

-- any port but that to the cleaner
abbrev pub IsOther : Port → Type 0
IsOther port.Clean = ⊥
IsOther p = Unit {0}

clean_away : (p : Port) → IsOther p → is_port port.Clean p ≡ false
clean_away port.Clean it = absurd it
clean_away p it = refl

module _ (w : Pipework) (apart : (a : List ℕ) (d : ℕ) (b : List ℕ) → w.programs a d ≡ Some (Runs b) → b ≢ codes "clean") where
  abbrev Given : Port → List ℕ → Type 0
  Given p bytes = IsSameLink w (record { pipes = gives w (codes "sender") p bytes; programs = w.programs; slots = w.slots })

  given_same : (p : Port) (bytes : List ℕ) → IsOther p → Given p bytes
  given_same port.Clean bytes it = absurd it
  given_same port.Lspawn bytes it = record { given = refl; answers = refl }
  given_same port.Rspawn bytes it = record { given = refl; answers = refl }
  given_same port.Input bytes it = record { given = refl; answers = refl }
  given_same port.Todo bytes it = record { given = refl; answers = refl }
  given_same (port.Status d) bytes it = record { given = refl; answers = refl }
  given_same port.Output bytes it =
      let to = child_output w (codes "sender") (w.slots (codes "sender")) in
      record {
        given = ap (λ (x : Pipe). x.bytes) (away_same w.pipes to (given bytes) (codes "clean") port.Input (child_away w (codes "sender") (w.slots (codes "sender")) port.Input (λ n. refl)));
        answers = ap (λ (x : Pipe). x.bytes) (away_same w.pipes to (given bytes) (codes "sender") port.Clean (child_away w (codes "sender") (w.slots (codes "sender")) port.Clean (λ n. refl)));
      }
  given_same (port.Program d) bytes it = input_same w (codes "sender") (apart (codes "sender")) d (λ pipe. closed (given bytes pipe))

  -- a giving by another port
  pub gives_same : (wrote : ℕ) (p : Port) (bytes : List ℕ) (came : GotData) → IsOther p → IsSameLink w (pipework_after w (codes "sender") (needs.Give p bytes) came wrote)
  gives_same wrote p bytes got.Gave it = given_same p bytes it
  gives_same wrote p bytes got.Failed it = given_same p (take wrote bytes) it
  gives_same wrote p bytes came it = record { given = refl; answers = refl }

  -- and a taking by one
  pub takes_same : (wrote : ℕ) (p : Port) (came : GotData) → IsOther p → IsSameLink w (pipework_after w (codes "sender") (needs.Take p) came wrote)
  takes_same wrote p (got.Took bytes) it = record {
    given = refl;
    answers = ap (λ (x : Pipe). x.bytes) (away_same w.pipes (Some (mouth (codes "sender") p)) (taken bytes) (codes "sender") port.Clean (clean_away p it));
  }
  takes_same wrote p came it = record { given = refl; answers = refl }

  -- a taking frees a slot at most
  pub takes_slots : (wrote : ℕ) (p : Port) (came : GotData) → NoTenantMore w (pipework_after w (codes "sender") (needs.Take p) came wrote)
  takes_slots wrote (port.Status d) (got.Ended status) a e t is = not_freed (bytes_eq a (codes "sender") && (e == d)) (w.programs a e) t is
  takes_slots wrote (port.Status d) got.Crashed a e t is = not_freed (bytes_eq a (codes "sender") && (e == d)) (w.programs a e) t is
  takes_slots wrote p came a e t is = is
