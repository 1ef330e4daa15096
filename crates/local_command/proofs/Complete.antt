-- A delivery that nothing hinders goes well.
use Rattle.std.proofs.Common.{◌≡◌, ℕ, List, Contains, sym, ap, ◌∙◌, subst, inl, inr}
use Rattle.std.specs.Prelude.{◌⊎◌}
use Rattle.std.proofs.lemmas.Bool.{false≢true}
use Rattle.call_fs.specs.declared.past.Own.{Own}
use Rattle.call_fs.specs.Past.{HasCall, IsFault}
use Rattle.dot_qmail.specs.declared.line.Line.{Line}
use Rattle.dot_qmail.specs.declared.line.Line.TheVariants as line
use Rattle.local_parts.specs.declared.arguments.LocalArgs.{LocalArgs}
use Rattle.local_parts.specs.Looping.{is_looping}
use Rattle.local_parts.specs.Texts.{delivered_to}
use Rattle.maildir_drop.specs.declared.row.Attempt.TheVariants.{First}
use Rattle.maildir_drop.specs.Names.{is_name, names_of, pair_at}
use Rattle.local_deliver.specs.Drops.{drop_arguments}
use Rattle.program_runner.specs.Outside.{FailsToGive, FailsToTake}
use Rattle.program_runner.specs.Runs.{HasEvent}
use Rattle.local_command.specs.Delivered.{FailsOverChild}
use Rattle.local_command.specs.Unhindered.{IsUnhindered}
use Rattle.local_command.proofs.Hindering.{Hindered}
use Rattle.local_command.proofs.Hindering.Hindered.{BadName, ChildFailed, EndsBad, FindsTaken, HasMailbox, InputFailed, IsFaulted, LacksSome, Loops, NoForm, NoHost, NoMessage, NoPlan, OutputFailed}

-- nothing that failed was counted
module _ (args : LocalArgs) (past : List Own) (u : IsUnhindered args past) (disk : HasCall past IsFault → ⊥) (input : HasEvent past FailsToTake → ⊥) (output : HasEvent past FailsToGive → ⊥)
    (child : HasEvent past FailsOverChild → ⊥) where
  clears : Hindered args past → ⊥
  clears (NoMessage e) = let whole = u.whole in absurd (cc)
  clears (Loops message e l) =
      let whole = u.whole in
      let same : message ≡ u.message = cc in
      false≢true (sym u.no_loop ∙ ap (λ (m : List ℕ). is_looping (delivered_to args) m) (sym same) ∙ l)
  clears (NoHost e) = let host = u.host_is in absurd (cc)
  clears (NoForm e) = false≢true (sym e ∙ u.home)
  clears (NoPlan e) = let told = u.told in absurd (cc)
  clears (HasMailbox lines path e c) =
      let told = u.told in
      let same : lines ≡ u.lines = cc in
      u.no_mailbox path (subst (λ (l : List Line). Contains l (line.Mailbox path)) same c)
  clears (BadName lines path host message moment e c h m n) =
      let told = u.told in
      let host_is = u.host_is in
      let whole = u.whole in
      let same_lines : lines ≡ u.lines = cc in
      let same_host : host ≡ u.host = cc in
      let same_message : message ≡ u.message = cc in
      false≢true
      (sym n ∙ ap (λ (x : List ℕ). is_name (pair_at (names_of (drop_arguments args moment path x message)) First).tmp) same_host
      ∙ ap (λ (x : List ℕ). is_name (pair_at (names_of (drop_arguments args moment path u.host x)) First).tmp) same_message
      ∙ u.names path moment (subst (λ (l : List Line). Contains l (line.Maildir path)) same_lines c))
  clears (IsFaulted h) = disk h
  clears (LacksSome h) = u.there h
  clears (FindsTaken h) = u.free h
  clears (InputFailed h) = input h
  clears (OutputFailed h) = output h
  clears (ChildFailed h) = child h
  clears (EndsBad h) = u.ends h

  pub goes_well : (status : ℕ) → (status ≡ 0) ⊎ ((status ≡ 51) ⊎ Hindered args past) → (status ≡ 0) ⊎ (status ≡ 51)
  goes_well status (inl e) = inl e
  goes_well status (inr (inl e)) = inr e
  goes_well status (inr (inr h)) = absurd (clears h)
