-- What is printed, and why a command ended so.
use Rattle.std.proofs.Common.{◌≡◌, ◌≢◌, ◌⊎◌, ℕ, List, [], ◌∷◌, ◌++◌, take, drop, Option, Some, None, Err, All, Contains, inl, inr, refl, sym, subst, arith}
use Rattle.std.proofs.lemmas.List.{take-append-drop}
use Rattle.std.proofs.lemmas.List.Elements.{All-contains}
use Rattle.mail_bytes.specs.Told.{Meets}
use Rattle.outside.specs.declared.sink.Gave.TheVariants as gave
use Rattle.outside.specs.Streams.{Gives}
use Rattle.queue_paths.specs.Dirs.{queue_dirs}
use Rattle.queue_states.specs.declared.outcome.AuditError.{AuditError}
use Rattle.queue_states.specs.declared.outcome.AuditError.TheVariants.{Fault, Missing, Memory}
use Rattle.queue_states.specs.Searches.{DiskTold, IsSearched, IsWhy, HasSearched}
use Rattle.queue_states.proofs.Searches.{told_all, told_each, searched_none}
use Rattle.audit_command.specs.Audited.{Output, HasAudited, status_of}

-- a sink that failed took a prefix
pub part_taken : (old new : Option (List ℕ)) (text : List ℕ) → Meets old new (Gives gave.Failed text)
    → Meets old new (λ before after. (taken : List ℕ) × (rest : List ℕ) × (text ≡ taken ++ rest) × (after ≡ before ++ taken))
part_taken None None text took = tt
part_taken None (Some y) text took = absurd took
part_taken (Some x) None text took = absurd took
part_taken (Some x) (Some y) text took = (take took.0 text, drop took.0 text, sym (take-append-drop took.0 text), took.2)

-- another status isn't that of a text that was given
never_shown : (status : ℕ) → status ≢ 0 → status ≢ 53 → (status ≡ 0) ⊎ (status ≡ 53) → ⊥
never_shown status other more (inl e) = other e
never_shown status other more (inr e) = more e

unread_shown : (status : ℕ) → status ≡ 54 → (status ≡ 0) ⊎ (status ≡ 53) → ⊥
unread_shown status is = never_shown status (λ e. omega arith) (λ e. omega arith)

memory_shown : (status : ℕ) → status ≡ 51 → (status ≡ 0) ⊎ (status ≡ 53) → ⊥
memory_shown status is = never_shown status (λ e. omega arith) (λ e. omega arith)

memory_unread : (status : ℕ) → status ≡ 51 → status ≡ 54 → ⊥
memory_unread status is e = omega arith

-- An audit that failed: nothing is printed, and its reason is the status's.
module _ (old new : DiskTold) (out : Output) where
  refused_by : (why : AuditError) → IsSearched old new → IsWhy queue_dirs old new why → HasAudited old new out (status_of why)
  refused_by Fault searched rose = record {
    known = (3, omega arith, refl);
    searched = searched;
    printed = λ shown. absurd (unread_shown 54 refl shown);
    unread = λ is. inl rose;
    complete = told_all old.disk (λ d dirs calm quiet. absurd (calm rose));
  }
  refused_by (Missing dir) searched missing = record {
    known = (3, omega arith, refl);
    searched = searched;
    printed = λ shown. absurd (unread_shown 54 refl shown);
    unread = λ is. inr (told_each old.disk (λ d gone dirs. gone (All-contains (Contains d.dirs) queue_dirs dir dirs missing.0)) missing.1);
    complete = told_each old.disk (λ d gone dirs calm quiet. absurd (gone (All-contains (Contains d.dirs) queue_dirs dir dirs missing.0))) missing.1;
  }
  refused_by Memory searched none = record {
    known = (1, omega arith, refl);
    searched = searched;
    printed = λ shown. absurd (memory_shown 51 refl shown);
    unread = λ is. absurd (memory_unread 51 refl is);
    complete = told_all old.disk (λ d dirs calm quiet. inr refl);
  }

  pub refused : {T : Type 0} (why : AuditError) (status : ℕ) → status ≡ status_of why → HasSearched {T = T} queue_dirs old new (Err why) → HasAudited old new out status
  refused why status is has = subst (HasAudited old new out) (sym is) (refused_by why has.only has.why)

-- there was no memory before anything was done
pub nothing_done : (told : DiskTold) (out : Output) → HasAudited told told out 51
nothing_done told out = refused_by told told out Memory (searched_none told) tt
