-- What `make` comes to.
use Rattle.std.proofs.Common.{◌≡◌, ◌≢◌, ◌⊎◌, ℕ, List, Option, Result, Err, inl, inr, refl, sym, subst, arith}
use Rattle.mail_bytes.specs.Told.{Meets}
use Rattle.outside.specs.Streams.{CountsFailures, Gives}
use Rattle.outside.specs.declared.sink.Gave.TheVariants as gave
use Rattle.audit_command.specs.Audited.{Output}
use Rattle.command_words.specs.declared.command.Command.TheVariants.{Make}
use Rattle.command_words.specs.declared.command.MakeWords.{MakeWords}
use Rattle.command_words.specs.Reads.{Reads}
use Rattle.script_maker.specs.declared.error.MakeError.{MakeError}
use Rattle.script_maker.specs.declared.error.MakeError.TheVariants.{Failed, Memory}
use Rattle.script_maker.specs.Script.{script_of}
use Rattle.script_maker.proofs.Pieces.{none_taken}
use Rattle.qmail_top.specs.Making.{HasMade, status_of}

-- words tell one thing
pub one_make : (words : List (List ℕ)) (a b : MakeWords) → Reads words (Make a) → Reads words (Make b) → a ≡ b
one_make words a b first second = cc

-- no two of the statuses are one
done_output : (status : ℕ) → status ≡ 0 → status ≡ 53 → ⊥
done_output status is e = absurd (omega (arith, is, e))

done_memory : (status : ℕ) → status ≡ 0 → status ≡ 51 → ⊥
done_memory status is e = absurd (omega (arith, is, e))

memory_output : (status : ℕ) → status ≡ 51 → status ≡ 53 → ⊥
memory_output status is e = absurd (omega (arith, is, e))

-- a count that stands still
stands : (before now : ℕ) (Failure : Type 0) → now ≡ before → ¬ Failure → CountsFailures before now Failure
stands before now Failure same never = record { later = omega (arith, same); rose = λ failed. absurd (never failed); still = λ no. same }

-- the whole script was given
pub made : (told : MakeWords) (out : Output) → Meets out.old out.new (Gives gave.Done (script_of told.seed told.count)) → out.faults_new ≡ out.faults_old → HasMade told out 0
made told out all same = record {
  known = inl refl;
  all = λ is. all;
  part = λ other. absurd (other refl);
  cause = stands out.faults_old out.faults_new (0 ≡ 53) same (λ e. done_output 0 refl e);
}

-- the output failed
abbrev Fails : Result (Unit {0}) MakeError → Type 0
Fails result = result ≡ Err Failed

-- an error has its status
failed_as : (why : MakeError) (before now : ℕ) → CountsFailures before now (Fails (Err why)) → CountsFailures before now (status_of why ≡ 53)
failed_as Failed before now counted = record { later = counted.later; rose = λ is. counted.rose refl; still = λ no. absurd (no refl) }
failed_as Memory before now counted = stands before now (51 ≡ 53) (counted.still (λ e. cc)) (λ e. memory_output 51 refl e)

unmade_as : (why : MakeError) (told : MakeWords) (out : Output) → Meets out.old out.new (Gives gave.Failed (script_of told.seed told.count)) → CountsFailures out.faults_old out.faults_new (status_of why ≡ 53)
    → HasMade told out (status_of why)
unmade_as Failed told out part counted = record {
  known = inr (inl refl);
  all = λ is. absurd (done_output 53 is refl);
  part = λ other. part;
  cause = counted;
}
unmade_as Memory told out part counted = record {
  known = inr (inr refl);
  all = λ is. absurd (done_memory 51 is refl);
  part = λ other. part;
  cause = counted;
}

-- a part of it was given
pub unmade : (why : MakeError) (status : ℕ) (told : MakeWords) (out : Output) → status ≡ status_of why → Meets out.old out.new (Gives gave.Failed (script_of told.seed told.count))
    → CountsFailures out.faults_old out.faults_new (Fails (Err why)) → HasMade told out status
unmade why status told out is part counted =
    subst (HasMade told out) (sym is) (unmade_as why told out part (failed_as why out.faults_old out.faults_new counted))

-- there was no memory for the words
pub nothing_made : (told : MakeWords) (taken : Option (List ℕ)) (faults : ℕ) → HasMade told (record { old = taken; new = taken; faults_old = faults; faults_new = faults }) 51
nothing_made told taken faults =
    let out : Output = record { old = taken; new = taken; faults_old = faults; faults_new = faults } in
    unmade_as Memory told out (none_taken (script_of told.seed told.count) taken) (stands faults faults (51 ≡ 53) refl (λ e. memory_output 51 refl e))

-- what was read was made
pub made_from : (told read : MakeWords) (out : Output) (status : ℕ) → read ≡ told → HasMade read out status → HasMade told out status
made_from told read out status is h = subst (λ (m : MakeWords). HasMade m out status) is h

-- which status it never ends with
pub made_otherwise : (told : MakeWords) (out : Output) (status : ℕ) → HasMade told out status → status ≢ 100
made_otherwise told out status h e = by h.known
  where
    by : (status ≡ 0) ⊎ ((status ≡ 53) ⊎ (status ≡ 51)) → ⊥
    by (inl is) = absurd (omega (arith, is, e))
    by (inr (inl is)) = absurd (omega (arith, is, e))
    by (inr (inr is)) = absurd (omega (arith, is, e))
