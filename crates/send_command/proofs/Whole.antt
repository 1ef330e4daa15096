-- The command as a whole: its children are started, it is the sender, and they are ended.
use Rattle.std.proofs.Common.{◌≡◌, ℕ, List, [], ◌∷◌, false, replicate, Option, Some, None, refl, ap, ◌∙◌, subst, inl, inr, arith}
use Rattle.call_fs.specs.declared.past.ChildData.{ChildData}
use Rattle.program_runner.specs.ChildWords.{words_of}
use Rattle.program_runner.specs.Lines.{LineState}
use Rattle.program_runner.specs.Outside.{Outside}
use Rattle.program_runner.specs.Members.{Beside}
use Rattle.program_runner.specs.Serving.{SpawnerTold}
use Rattle.program_runner.proofs.Deeds.{did_nothing}
use Rattle.program_runner.proofs.Members.{nothing_beside, spawned_then}
use Rattle.queue_limits.specs.declared.statuses.TheConstants.{MEMORY}
use Rattle.send_command.specs.declared.links.Begun.{Begun}
use Rattle.send_command.specs.declared.links.Links.{Links}
use Rattle.send_command.specs.Links.{AreBegun, AreEnded, Begins, Finishes, chans_of, link_words}
use Rattle.send_command.specs.Sent.{HasRun, Logged, WasRun, WasUnstarted, lines_with}
use Rattle.send_command.proofs.Going.{all_part, took_nothing}

-- the lines that it begins with
pub lines_are : (l : LineState) (clean lspawn rspawn : Option ℕ) → l.links ≡ clean ∷ lspawn ∷ rspawn ∷ None ∷ [] → l.programs ≡ replicate 256 None → l.over ≡ replicate 256 false → l.kept ≡ []
    → l ≡ lines_with clean lspawn rspawn
lines_are l clean lspawn rspawn links programs over kept =
    ap (λ x. record { links = x; programs = l.programs; over = l.over; kept = l.kept }) links
    ∙ ap (λ x. record (lines_with clean lspawn rspawn) { programs = x; over = l.over; kept = l.kept }) programs
    ∙ ap (λ x. record (lines_with clean lspawn rspawn) { over = x; kept = l.kept }) over
    ∙ ap (λ x. record (lines_with clean lspawn rspawn) { kept = x }) kept

-- out of memory before its first event
pub nothing_run : (words : ChildData → List (List ℕ)) (turns : ℕ) (old : Outside) (beside : Beside) (log : Logged) → HasRun words turns MEMORY old old beside beside log log
nothing_run words turns old beside log = inr (inr (
  refl,
  inl (record {
    cut = record {
      turns = [];
      mid = old;
      mid_beside = beside;
      on = tt;
      ran = record { run = λ args is. tt; due = λ args is. tt; some = λ h. tt; did = did_nothing old.last old (omega arith); did_beside = nothing_beside words beside };
      rest = inl (refl, refl);
    };
    took = all_part [] log log (record { taken = took_nothing log.taken; faults = refl });
  }),
))

pub unstarted : (dir program : List ℕ) (status : ℕ) (b : Begun) (old : Outside) (beside : Beside) (mid new : SpawnerTold) (log : Logged) → b.unstarted ≡ Some status
    → AreBegun (link_words dir program) b beside.spawner mid → AreEnded b.links mid new → WasUnstarted dir program status old old beside (record beside { spawner = new }) log log
unstarted dir program status b old beside mid new log is begun ended = record {
  chans = chans_of b.links;
  starts = begun.calls;
  begins = subst (λ (o : Option ℕ). Begins (link_words dir program) begun.calls (chans_of b.links) o) is begun.begins;
  ends = ended.calls;
  finishes = ended.finishes;
  spawner = spawned_then begun.calls ended.calls beside.spawner mid new begun.spawns ended.spawns;
  rest = refl;
  beside_rest = refl;
  quiet = refl;
}

pub ran : (dir program : List ℕ) (turns status : ℕ) (b : Begun) (old new : Outside) (beside over : Beside) (mid last : SpawnerTold) (log logged : Logged) → b.unstarted ≡ None
    → AreBegun (link_words dir program) b beside.spawner mid
    → HasRun (words_of dir program) turns status old new (record beside { spawner = mid; lines = lines_with b.links.clean b.links.lspawn b.links.rspawn }) over log logged
    → AreEnded b.links over.spawner last → WasRun dir program turns status old new beside (record over { spawner = last }) log logged
ran dir program turns status b old new beside over mid last log logged is begun run ended =
    let all = begun.all is in
    let chans : chans_of b.links ≡ all.0 ∷ all.1 ∷ all.2 ∷ [] = ap chans_of all.3 in
    record {
      clean = all.0;
      lspawn = all.1;
      rspawn = all.2;
      starts = begun.calls;
      begins = subst (λ (o : Option ℕ). Begins (link_words dir program) begun.calls (all.0 ∷ all.1 ∷ all.2 ∷ []) o) is
          (subst (λ (l : List ℕ). Begins (link_words dir program) begun.calls l b.unstarted) chans begun.begins);
      begun = record beside { spawner = mid; lines = lines_with b.links.clean b.links.lspawn b.links.rspawn };
      started = begun.spawns;
      same = ap (λ (k : Links). record beside { spawner = mid; lines = lines_with k.clean k.lspawn k.rspawn }) all.3;
      over = over;
      ran = run;
      ends = ended.calls;
      finishes = subst (λ (l : List ℕ). Finishes l ended.calls) chans ended.finishes;
      ended = ended.spawns;
      last = refl;
    }
