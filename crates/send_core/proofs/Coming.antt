-- What may come of a need that is a file call, and names that are no channel file's.
use Rattle.std.proofs.Common.{◌≡◌, ℕ, Bool, Option, Some, None, refl, ap, ◌∙◌}
use Rattle.call_fs.specs.declared.calls.Answer.{Answer}
use Rattle.call_fs.specs.declared.calls.Answer.TheVariants as answer
use Rattle.call_fs.specs.declared.calls.Fd.{Fd}
use Rattle.call_fs.specs.declared.calls.Told.{Told}
use Rattle.call_fs.specs.declared.past.GotData.{GotData}
use Rattle.call_fs.specs.declared.past.GotData.TheVariants as came
use Rattle.call_fs.specs.declared.past.NeedData.{NeedData}
use Rattle.call_fs.specs.declared.past.NeedData.TheVariants as needs
use Rattle.call_fs.specs.Columns.{IsAnswerTo}
use Rattle.call_fs.specs.Program.{MayCome}
use Rattle.queue_paths.specs.Names.{Name, parse, path}
use Rattle.queue_paths.proofs.Paths.{parse-path}
use Rattle.call_fs.proofs.Coming.{by_fit}
use Rattle.send_core.specs.Past.{opened_as, source_of}

abbrev pub IsAnswered : NeedData → Answer → Type 0
IsAnswered (needs.File call) told = IsAnswerTo call told
IsAnswered due told = ⊥

abbrev pub IsFile : NeedData → Type 0
IsFile (needs.File call) = Unit {0}
IsFile due = ⊥

pub by_file : (due : NeedData) → IsFile due → (P : GotData → Type 0) (got : GotData) → MayCome due got → ((told : Told) → IsAnswered due told.answer → P (came.Answered told)) → P got
by_file (needs.File call) is P got may f = by_fit call P got may f
by_file (needs.Take port) is P got may f = absurd is
by_file (needs.Give port bytes) is P got may f = absurd is
by_file (needs.Start child) is P got may f = absurd is
by_file (needs.Command bytes) is P got may f = absurd is
by_file needs.Wait is P got may f = absurd is
by_file (needs.Ended status) is P got may f = absurd is

-- a name that is no channel file's
pub not_channel : (late : ℕ → Bool) (x : Name) → ((fd : Fd) → source_of late (Some x) fd ≡ None) → (told : Answer) → opened_as late (parse (path x)) told ≡ None
not_channel late x other (answer.Opened fd) = ap (λ (o : Option Name). source_of late o fd) (parse-path x) ∙ other fd
not_channel late x other (answer.Created fd n) = refl
not_channel late x other (answer.Count count) = refl
not_channel late x other answer.Done = refl
not_channel late x other (answer.Stat stat) = refl
not_channel late x other (answer.Name name) = refl
not_channel late x other answer.NoName = refl
not_channel late x other (answer.Refused why) = refl
