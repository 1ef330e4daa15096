-- A child that is fed, and a command that is run.
use Rattle.std.proofs.Common.{◌≡◌, ℕ, suc, ◌+◌, ◌<◌, List, [], ◌∷◌, ◌++◌, length, map, take, drop, get_or, Vec, refl, sym, ap, ◌∙◌, subst, inl, inr, ⊎_elim, arith, append_assoc}
use Rattle.std.specs.List.{concat}
use Rattle.std.proofs.lemmas.List.{append-nil, take_more}
use Rattle.std.proofs.Math.Seq.{drop-cons}
use Rattle.std.proofs.Math.ListN.{take-append-drop}
use Rattle.mail_bytes.specs.Told.{Records}
use Rattle.outside.specs.declared.sink.Gave.{Gave}
use Rattle.outside.specs.declared.sink.Gave.TheVariants as gave
use Rattle.outside.specs.declared.spawner.Started.{Started}
use Rattle.outside.specs.declared.spawner.Started.TheVariants as started
use Rattle.outside.specs.declared.spawner.Status.{Status}
use Rattle.outside.specs.declared.spawner.Status.TheVariants as status
use Rattle.outside.specs.Children.{SpawnCall}
use Rattle.outside.specs.Children.SpawnCall.{Start, Feed, Finish, AskStatus}
use Rattle.outside.specs.Streams.{CountsFailures}
use Rattle.program_runner.specs.declared.served.Served.{Served}
use Rattle.program_runner.specs.declared.served.Served.TheVariants as served
use Rattle.program_runner.specs.Lines.{came_of_status}
use Rattle.program_runner.specs.Serving.{Answers, FitsPiece, SpawnerTold, Spawns, came_with, served_status}
use Rattle.program_runner.proofs.Deeds.{kept_one}
use Rattle.program_runner.proofs.Members.{answered_nothing, spawned_then}
use Rattle.program_runner.proofs.Serves.{asked_feed, asked_nothing}
use Rattle.local_command.specs.Commands.{FeedsUpTo, fed_all, shell}
use Rattle.local_command.specs.Commands.RunsCommand.{HasRun, NoMemory, Unstarted}
use Rattle.local_command.specs.Done.{Children}
use Rattle.local_command.specs.Waiting.{HasAsked, HasFed, HasFedParts, HasRunCommand, parts_of}

-- Parts

map_more : {X Y : Type 0} (f : X → Y) (a b : List X) → map f (a ++ b) ≡ map f a ++ map f b
map_more f [] b = refl
map_more f (x ∷ a) b = ap (λ t. f x ∷ t) (map_more f a b)

concat_more : (a b : List (List ℕ)) → concat (a ++ b) ≡ concat a ++ concat b
concat_more [] b = refl
concat_more (x ∷ a) b = ap (λ t. x ++ t) (concat_more a b) ∙ sym (append_assoc x (concat a) (concat b))

-- Blocks that are fed one after another

module _ {Z : Type 0} (chan : ℕ) (blocks : List (Vec ℕ Z)) (k : ℕ) (block : Vec ℕ Z) (inside : k < length blocks) where
  abbrev part : List ℕ
  part = (get_or blocks k block).items

  one_more : parts_of (take (k + 1) blocks) ≡ parts_of (take k blocks) ++ part ∷ []
  one_more = ap parts_of (take_more blocks k block inside) ∙ map_more (λ (b : Vec ℕ Z). b.items) (take k blocks) (get_or blocks k block ∷ [])

  all_parts : parts_of blocks ≡ parts_of (take k blocks) ++ part ∷ parts_of (drop (suc k) blocks)
  all_parts =
      ap parts_of (sym (take-append-drop k blocks) ∙ ap (λ t. take k blocks ++ t) (drop-cons blocks k block inside))
      ∙ map_more (λ (b : Vec ℕ Z). b.items) (take k blocks) (get_or blocks k block ∷ drop (suc k) blocks)

  module _ (old mid new : SpawnerTold) (h : HasFedParts chan (parts_of (take k blocks)) gave.Done old mid) (told : Gave) (children : new.children ≡ mid.children)
      (called : Records mid.calls new.calls (Feed chan part told)) (cause : CountsFailures mid.faults new.faults (told ≡ gave.Failed)) where
    fed : Spawns (h.calls ++ Feed chan part told ∷ []) old new
    fed = spawned_then h.calls (Feed chan part told ∷ []) old mid new h.spawner (asked_feed mid new chan part told children called cause)

    pub fed_on : told ≡ gave.Done → HasFedParts chan (parts_of (take (k + 1) blocks)) gave.Done old new
    fed_on is = record {
      calls = h.calls ++ Feed chan part told ∷ [];
      feeds = ap (λ t. t ++ Feed chan part told ∷ []) h.feeds ∙ ap (λ (g : Gave). fed_all chan (parts_of (take k blocks)) ++ Feed chan part g ∷ []) is
          ∙ sym (map_more (λ (p : List ℕ). Feed chan p gave.Done) (parts_of (take k blocks)) (part ∷ [])) ∙ ap (fed_all chan) (sym one_more);
      spawner = fed;
    }

    pub fed_up_to : told ≡ gave.Failed → HasFedParts chan (parts_of blocks) gave.Failed old new
    fed_up_to is = record {
      calls = h.calls ++ Feed chan part told ∷ [];
      feeds = record {
        before = parts_of (take k blocks);
        part = part;
        after = parts_of (drop (suc k) blocks);
        parts_are = all_parts;
        calls_are = ap (λ t. t ++ Feed chan part told ∷ []) h.feeds ∙ ap (λ (g : Gave). fed_all chan (parts_of (take k blocks)) ++ Feed chan part g ∷ []) is;
      };
      spawner = fed;
    }

pub fed_nothing : (chan : ℕ) (s : SpawnerTold) → HasFedParts chan [] gave.Done s s
fed_nothing chan s = record { calls = []; feeds = refl; spawner = asked_nothing s }

-- The last block after them

module _ (chan : ℕ) (parts : List (List ℕ)) (last text : List ℕ) (whole : concat parts ++ last ≡ text) where
  abbrev all : List (List ℕ)
  all = parts ++ last ∷ []

  is_whole : concat all ≡ text
  is_whole = concat_more parts (last ∷ []) ∙ ap (λ t. concat parts ++ t) (append-nil last) ∙ whole

  pub fed_broken : (old new : SpawnerTold) → HasFedParts chan parts gave.Failed old new → HasFed chan text old new
  fed_broken old new h = record {
    calls = h.calls;
    feeds = record {
      parts = all;
      whole = is_whole;
      feeds = inr (record {
        before = h.feeds.before;
        part = h.feeds.part;
        after = h.feeds.after ++ last ∷ [];
        parts_are = ap (λ t. t ++ last ∷ []) h.feeds.parts_are ∙ append_assoc h.feeds.before (h.feeds.part ∷ h.feeds.after) (last ∷ []);
        calls_are = h.feeds.calls_are;
      });
    };
    spawner = h.spawner;
  }

  last_feeds : (calls : List SpawnCall) → calls ≡ fed_all chan parts → (told : Gave) → FeedsUpTo chan all (calls ++ Feed chan last told ∷ [])
  last_feeds calls is gave.Done = inl (ap (λ t. t ++ Feed chan last gave.Done ∷ []) is ∙ sym (map_more (λ (p : List ℕ). Feed chan p gave.Done) parts (last ∷ [])))
  last_feeds calls is gave.Failed = inr (record { before = parts; part = last; after = []; parts_are = refl; calls_are = ap (λ t. t ++ Feed chan last gave.Failed ∷ []) is })

  pub fed_last : (old mid new : SpawnerTold) (told : Gave) → HasFedParts chan parts gave.Done old mid → new.children ≡ mid.children → Records mid.calls new.calls (Feed chan last told)
      → CountsFailures mid.faults new.faults (told ≡ gave.Failed) → HasFed chan text old new
  fed_last old mid new told h children called cause = record {
    calls = h.calls ++ Feed chan last told ∷ [];
    feeds = record { parts = all; whole = is_whole; feeds = last_feeds h.calls h.feeds told };
    spawner = spawned_then h.calls (Feed chan last told ∷ []) old mid new h.spawner (asked_feed mid new chan last told children called cause);
  }

-- A command

pub status_served : (told : Status) (into : List ℕ) → came_with (served_status told) into ≡ came_of_status told
status_served (status.Ended code) into = refl
status_served status.Crashed into = refl
status_served status.Failed into = refl

pub status_fits : (told : Status) → FitsPiece (served_status told)
status_fits (status.Ended code) = tt
status_fits status.Crashed = tt
status_fits status.Failed = tt

pub asked_finish : (old new : SpawnerTold) (chan : ℕ) → new.children ≡ old.children → Records old.calls new.calls (Finish chan) → new.faults ≡ old.faults → Spawns (Finish chan ∷ []) old new
asked_finish old new chan children called faults = record {
  told = kept_one old.calls new.calls (Finish chan) called;
  children = children;
  counts = omega arith;
  cause = ⊎_elim (λ h. absurd h) (λ h. absurd h);
}

module _ (text message : List ℕ) (told : Started) (old new : Children) (posts : new.posts ≡ old.posts) (s : Spawns (Start (shell text) told ∷ []) old.spawner new.spawner) where
  answered_none : Answers [] old.posts new.posts
  answered_none = subst (λ p. Answers [] old.posts p) (sym posts) (answered_nothing old.posts)

  pub not_started : told ≡ started.Failed → HasRunCommand text message served.Failed old new
  not_started is = record {
    asked = [];
    calls = Start (shell text) told ∷ [];
    runs = λ into. Unstarted refl refl (ap (λ (t : Started). Start (shell text) t ∷ []) is);
    fits = tt;
    posts = answered_none;
    spawner = s;
  }

  pub no_memory : told ≡ started.Memory → HasRunCommand text message served.Memory old new
  no_memory is = record {
    asked = [];
    calls = Start (shell text) told ∷ [];
    runs = λ into. NoMemory refl refl (ap (λ (t : Started). Start (shell text) t ∷ []) is);
    fits = tt;
    posts = answered_none;
    spawner = s;
  }

pub has_run : (text message : List ℕ) (told : Started) (chan pid : ℕ) (ended : Status) (result : Served) (old : Children) (a b c : SpawnerTold) (new : Children) → told ≡ started.Chan chan pid
    → Spawns (Start (shell text) told ∷ []) old.spawner a → HasFed chan message a b → Spawns (Finish chan ∷ []) b c → HasAsked chan ended (record { posts = old.posts; spawner = c }) new
    → result ≡ served_status ended → HasRunCommand text message result old new
has_run text message told chan pid ended result old a b c new is start fed finish asked served =
    let tail = spawned_then (Finish chan ∷ []) (AskStatus chan ended ∷ []) b c new.spawner finish asked.spawner in
    let rest = spawned_then fed.calls (Finish chan ∷ (AskStatus chan ended ∷ [])) a b new.spawner fed.spawner tail in
    record {
      asked = asked.asked;
      calls = Start (shell text) told ∷ (fed.calls ++ (Finish chan ∷ (AskStatus chan ended ∷ [])));
      runs = λ into. HasRun (record {
        chan = chan;
        pid = pid;
        fed = fed.calls;
        ended = ended;
        feeds = fed.feeds;
        awaits = asked.awaits;
        came_is = ap (λ (r : Served). came_with r into) served ∙ status_served ended into;
        calls_are = ap (λ (t : Started). Start (shell text) t ∷ (fed.calls ++ (Finish chan ∷ (AskStatus chan ended ∷ [])))) is;
      });
      fits = subst FitsPiece (sym served) (status_fits ended);
      posts = asked.posts;
      spawner = spawned_then (Start (shell text) told ∷ []) (fed.calls ++ (Finish chan ∷ (AskStatus chan ended ∷ []))) old.spawner a new.spawner start rest;
    }
