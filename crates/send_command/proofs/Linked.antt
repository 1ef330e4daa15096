-- The links' children are started and ended.
use Rattle.std.proofs.Common.{◌≡◌, ℕ, List, [], ◌∷◌, ◌++◌, map, Option, Some, None, Result, Ok, Err, refl, sym, ap, ◌∙◌, subst, ⊎_elim, arith}
use Rattle.outside.specs.Children.{SpawnCall}
use Rattle.outside.specs.Children.SpawnCall.{AskStatus, Finish, Start}
use Rattle.outside.specs.declared.spawner.Started.{Started}
use Rattle.outside.specs.declared.spawner.Started.TheVariants as started
use Rattle.outside.specs.declared.spawner.Status.{Status}
use Rattle.mail_bytes.specs.Told.{Records}
use Rattle.program_runner.specs.Serving.{SpawnerTold, Spawns}
use Rattle.program_runner.proofs.Deeds.{kept_one}
use Rattle.program_runner.proofs.Members.{spawned_then}
use Rattle.program_runner.proofs.Serves.{asked_nothing}
use Rattle.send_command.specs.declared.links.Begun.{Begun}
use Rattle.send_command.specs.declared.links.Links.{Links}
use Rattle.send_command.specs.Links.{AreAll, AreBegun, AreEnded, AsksEach, AsksOf, Begins, IsBegun, Lacks, chans_of, chans_with, ends_of}
use Rattle.send_command.specs.Links.Begins.{AllRun, NoMemory, Runs, Unstarted}

-- so many children were started, or so many and then one that couldn't be
pub record BeganSo (words : List (List (List ℕ))) (chans : List ℕ) (status : Option ℕ) (old new : SpawnerTold) : Type 0 where
  pub calls : List SpawnCall
  pub begins : Begins words calls chans status
  pub spawns : Spawns calls old new

pub none_more : (s : SpawnerTold) → BeganSo [] [] None s s
none_more s = record { calls = []; begins = AllRun; spawns = asked_nothing s }

pub ran : (words : List (List ℕ)) (more : List (List (List ℕ))) (chan : ℕ) (chans : List ℕ) (status : Option ℕ) (told : Result ℕ ℕ) (old mid new : SpawnerTold) → told ≡ Ok chan → IsBegun words told old mid
    → BeganSo more chans status mid new → BeganSo (words ∷ more) (chan ∷ chans) status old new
ran words more chan chans status told old mid new is first next = by (subst (λ (r : Result ℕ ℕ). IsBegun words r old mid) is first) where
  by : IsBegun words (Ok chan) old mid → BeganSo (words ∷ more) (chan ∷ chans) status old new
  by start = record {
    calls = Start words (started.Chan chan start.0) ∷ next.calls;
    begins = Runs words chan start.0 more next.calls chans status next.begins;
    spawns = spawned_then (Start words (started.Chan chan start.0) ∷ []) next.calls old mid new start.1 next.spawns;
  }

pub lacked : (words : List (List ℕ)) (more : List (List (List ℕ))) (status : ℕ) (told : Result ℕ ℕ) (old new : SpawnerTold) → told ≡ Err status → IsBegun words told old new
    → BeganSo (words ∷ more) [] (Some status) old new
lacked words more status told old new is first = let start = subst (λ (r : Result ℕ ℕ). IsBegun words r old new) is first in by start.0 start.1 start.2 where
  by : (why : Started) → Lacks why status → Spawns (Start words why ∷ []) old new → BeganSo (words ∷ more) [] (Some status) old new
  by (started.Chan chan pid) is spawns = absurd is
  by started.Failed is spawns = record { calls = Start words started.Failed ∷ []; begins = subst (λ (s : ℕ). Begins (words ∷ more) (Start words started.Failed ∷ []) [] (Some s)) (sym is) (Unstarted words more); spawns = spawns }
  by started.Memory is spawns = record { calls = Start words started.Memory ∷ []; begins = subst (λ (s : ℕ). Begins (words ∷ more) (Start words started.Memory ∷ []) [] (Some s)) (sym is) (NoMemory words more); spawns = spawns }

-- what the code answers
pub as_begun : (words : List (List (List ℕ))) (b : Begun) (l : Links) (o : Option ℕ) (old new : SpawnerTold) → b ≡ record { links = l; unstarted = o } → BeganSo words (chans_of l) o old new
    → (o ≡ None → AreAll l) → AreBegun words b old new
as_begun words b l o old new is s all = subst (λ (k : Begun). AreBegun words k old new) (sym is) (record { calls = s.calls; begins = s.begins; spawns = s.spawns; all = all })

-- The inputs were ended, and then the statuses taken

finished : (o : Option ℕ) (chans : List ℕ) → map Finish (chans_with o chans) ≡ ends_of o ++ map Finish chans
finished None chans = refl
finished (Some chan) chans = refl

asked_too : (o : Option ℕ) (chans : List ℕ) (calls rest : List SpawnCall) → AsksOf o calls → AsksEach chans rest → AsksEach (chans_with o chans) (calls ++ rest)
asked_too None chans calls rest is asks = subst (λ (l : List SpawnCall). AsksEach chans (l ++ rest)) (sym is) asks
asked_too (Some chan) chans calls rest is asks = (is.0, rest, asks, ap (λ (l : List SpawnCall). l ++ rest) is.1)

-- three inputs were ended, and then three statuses taken
pub as_ended : (l : Links) (a b c d e f g : SpawnerTold) → Spawns (ends_of l.clean) a b → Spawns (ends_of l.lspawn) b c → Spawns (ends_of l.rspawn) c d
    → (x : List SpawnCall) → AsksOf l.clean x → Spawns x d e → (y : List SpawnCall) → AsksOf l.lspawn y → Spawns y e f → (z : List SpawnCall) → AsksOf l.rspawn z → Spawns z f g → AreEnded l a g
as_ended l a b c d e f g one two three x asks_x took_x y asks_y took_y z asks_z took_z =
    let rest : List ℕ = chans_with l.lspawn (chans_with l.rspawn []) in
    let last : List ℕ = chans_with l.rspawn [] in
    let asks : List SpawnCall = x ++ (y ++ (z ++ [])) in
    let inputs : map Finish (chans_with l.clean rest) ≡ ends_of l.clean ++ (ends_of l.lspawn ++ (ends_of l.rspawn ++ []))
    = finished l.clean rest ∙ ap (λ (k : List SpawnCall). ends_of l.clean ++ k) (finished l.lspawn last ∙ ap (λ (k : List SpawnCall). ends_of l.lspawn ++ k) (finished l.rspawn [])) in
    record {
      calls = (ends_of l.clean ++ (ends_of l.lspawn ++ (ends_of l.rspawn ++ []))) ++ asks;
      finishes = (
        asks,
        asked_too l.clean rest x (y ++ (z ++ [])) asks_x (asked_too l.lspawn last y (z ++ []) asks_y (asked_too l.rspawn [] z [] asks_z refl)),
        ap (λ (k : List SpawnCall). k ++ asks) (sym inputs),
      );
      spawns = spawned_then (ends_of l.clean ++ (ends_of l.lspawn ++ (ends_of l.rspawn ++ []))) asks a d g
          (spawned_then (ends_of l.clean) (ends_of l.lspawn ++ (ends_of l.rspawn ++ [])) a b d one
          (spawned_then (ends_of l.lspawn) (ends_of l.rspawn ++ []) b c d two (spawned_then (ends_of l.rspawn) [] c d d three (asked_nothing d))))
          (spawned_then x (y ++ (z ++ [])) d e g took_x (spawned_then y (z ++ []) e f g took_y (spawned_then z [] f g g took_z (asked_nothing g))));
    }

-- One call of the spawner

-- an input was ended, if there is one
pub finished_one : (o : Option ℕ) (chan : ℕ) (old new : SpawnerTold) → o ≡ Some chan → new.children ≡ old.children → Records old.calls new.calls (Finish chan) → new.faults ≡ old.faults → Spawns (ends_of o) old new
finished_one o chan old new is children told faults = subst (λ (k : Option ℕ). Spawns (ends_of k) old new) (sym is)
    (record { told = kept_one old.calls new.calls (Finish chan) told; children = children; counts = omega (arith, faults); cause = ⊎_elim (λ h. absurd h) (λ h. absurd h) })

pub finished_none : (o : Option ℕ) (s : SpawnerTold) → o ≡ None → Spawns (ends_of o) s s
finished_none o s is = subst (λ (k : Option ℕ). Spawns (ends_of k) s s) (sym is) (asked_nothing s)

-- a status was taken, if there is a child
abbrev pub AskedSo : Option ℕ → SpawnerTold → SpawnerTold → Type 0
AskedSo o old new = (calls : List SpawnCall) × AsksOf o calls × Spawns calls old new

pub asked_one : (o : Option ℕ) (chan : ℕ) (told : Status) (old new : SpawnerTold) → o ≡ Some chan → Spawns (AskStatus chan told ∷ []) old new → AskedSo o old new
asked_one o chan told old new is spawns = subst (λ (k : Option ℕ). AskedSo k old new) (sym is) (AskStatus chan told ∷ [], (told, refl), spawns)

pub asked_none : (o : Option ℕ) (s : SpawnerTold) → o ≡ None → AskedSo o s s
asked_none o s is = subst (λ (k : Option ℕ). AskedSo k s s) (sym is) ([], refl, asked_nothing s)

-- one child was started, or wasn't
pub begun_ok : (words : List (List ℕ)) (told : Started) (chan pid : ℕ) (old new : SpawnerTold) → told ≡ started.Chan chan pid → Spawns (Start words told ∷ []) old new → IsBegun words (Ok chan) old new
begun_ok words told chan pid old new is spawns = (pid, subst (λ (t : Started). Spawns (Start words t ∷ []) old new) is spawns)

pub begun_failed : (words : List (List ℕ)) (told : Started) (old new : SpawnerTold) → told ≡ started.Failed → Spawns (Start words told ∷ []) old new → IsBegun words (Err 84) old new
begun_failed words told old new is spawns = (started.Failed, refl, subst (λ (t : Started). Spawns (Start words t ∷ []) old new) is spawns)

pub begun_starved : (words : List (List ℕ)) (told : Started) (old new : SpawnerTold) → told ≡ started.Memory → Spawns (Start words told ∷ []) old new → IsBegun words (Err 51) old new
begun_starved words told old new is spawns = (started.Memory, refl, subst (λ (t : Started). Spawns (Start words t ∷ []) old new) is spawns)
