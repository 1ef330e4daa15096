-- Which messages are known after an event.
use Rattle.std.proofs.Common.{◌≡◌, ◌<◌, ◌⊎◌, ℕ, zero, suc, List, [], ◌∷◌, bytes_eq, length, arith, Bool, true, false, if◌then◌else◌, Option, Some, refl, sym, ap, ◌∙◌, inl, inr, ⊎_elim, eq-eqb}
use Rattle.std.specs.Prelude.{Contains, slice_index_or, ◌||◌, ◌&&◌, ◌==◌}
use Rattle.call_fs.specs.Past.{IsRunBy}
use Rattle.call_fs.specs.declared.calls.Answer.TheVariants as answer
use Rattle.call_fs.specs.declared.calls.Answer.{Answer}
use Rattle.call_fs.specs.declared.calls.CallData.TheVariants as call
use Rattle.call_fs.specs.declared.calls.FsError.TheVariants as why
use Rattle.call_fs.specs.declared.past.GotData.TheVariants as came
use Rattle.call_fs.specs.declared.past.GotData.{GotData}
use Rattle.call_fs.specs.declared.past.NeedData.TheVariants as needs
use Rattle.call_fs.specs.declared.past.NeedData.{NeedData}
use Rattle.call_fs.specs.declared.past.Own.{Own}
use Rattle.call_fs.specs.declared.program.Port.TheVariants as port
use Rattle.queue_paths.specs.Names.Name.{Of}
use Rattle.queue_paths.specs.Names.Part.{Remote as RemoteFile}
use Rattle.queue_paths.specs.Names.{Name, parse}
use Rattle.send_core.specs.Births.{births}
use Rattle.send_core.specs.Table.{Next, place_after}
use Rattle.send_known.specs.Known.{is_known, is_of}
use Rattle.send_known.specs.declared.known.Known.{Known}
use Rattle.send_parts.specs.Steps.{remove_text}
use Rattle.send_runs.proofs.Knowing.{known_exactly}
use Rattle.send_runs.specs.Knowing.{known_by, known_in, looked_for}
use Rattle.todo_pass.specs.Table.{command_text}

-- What is known was known, or is known by the event

or_either : (b was : Bool) → (b || was) ≡ true → ((b || false) ≡ true) ⊎ (was ≡ true)
or_either true was e = inl refl
or_either false was e = inr e

module _ (n : ℕ) where
  looked_either : (x : Option Name) (told : Answer) (was : Bool) → looked_for x told n was ≡ true → (looked_for x told n false ≡ true) ⊎ (was ≡ true)
  looked_either (Some (Of RemoteFile m)) (answer.Stat stat) was e = or_either (m == n) was e
  looked_either (Some (Of RemoteFile m)) (answer.Refused why.NotThere) was e = or_either (m == n) was e
  looked_either x told was e = inr e

  answered_either : (r k was : Bool) → (if r then false else (if k then true else was)) ≡ true → ((if r then false else (if k then true else false)) ≡ true) ⊎ (was ≡ true)
  answered_either true k was e = absurd (cc)
  answered_either false true was e = inl refl
  answered_either false false was e = inr e

  known_either : (due : NeedData) (got : GotData) (command : List ℕ) (was : Bool) → known_by due got command n was ≡ true → (known_by due got command n false ≡ true) ⊎ (was ≡ true)
  known_either (needs.File (call.Stat name)) (came.Answered told) command was e = looked_either (parse name) told.answer was e
  known_either (needs.Take port.Clean) (came.Took bytes) command was e =
      answered_either (bytes_eq command (remove_text n)) (bytes_eq command (command_text n) && bytes_eq bytes (43 ∷ [])) was e
  known_either due got command was e = inr e

-- what the sender knows is known by the past

or_true : (b : Bool) → (b || true) ≡ true
or_true true = refl
or_true false = refl

any_at : (n : ℕ) (k : Known) (ks : List Known) (i : ℕ) → i < length ks → slice_index_or ks i k ≡ k → k.n ≡ n → is_known n ks ≡ true
any_at n k [] i below is same = absurd (omega arith)
any_at n k (x ∷ ks) zero below is same = ap (λ (b : Bool). b || is_known n ks) (ap (λ (y : Known). y.n == n) is ∙ eq-eqb k.n n same)
any_at n k (x ∷ ks) (suc i) below is same = ap (λ (b : Bool). is_of n x || b) (any_at n k ks i (omega arith) is same) ∙ or_true (is_of n x)

pub known_now : (turns : Option ℕ) (past : List Own) → IsRunBy (Next turns) past → (k : Known) → Contains (place_after turns past).book.messages.known k → known_in past k.n ≡ true
known_now turns past run k there =
    sym (known_exactly turns past run k.n) ∙ any_at k.n k (place_after turns past).book.messages.known there.0 there.1 there.2 refl

-- a message that is known after an event, and isn't learnt by it, was known
pub was_known : (event : Own) (before : List Own) (n : ℕ) → known_in (event ∷ before) n ≡ true → known_by event.due event.came (births before).command n false ≡ false → known_in before n ≡ true
was_known event before n known unlearnt = ⊎_elim
    (λ (now : known_by event.due event.came (births before).command n false ≡ true). absurd (cc (sym unlearnt ∙ now)))
    (λ (was : known_in before n ≡ true). was)
    (known_either n event.due event.came (births before).command (known_in before n) known)
