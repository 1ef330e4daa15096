-- The next request of a spawner: it is the first that waits, if one is there.
use Rattle.std.proofs.Common.{◌≡◌, ◌≢◌, ℕ, ◌+◌, ◌≤◌, List, [], ◌∷◌, ◌++◌, Bool, true, false, not, nat_le, if◌then◌else◌, Option, Some, None, refl, sym, ap, subst, arith}
use Rattle.std.specs.Prelude.{is_none, is_some}
use Rattle.send_known.specs.declared.channel.Channel.{Channel}
use Rattle.spawn_protocol.specs.declared.inbox.Inbox.{Inbox}
use Rattle.spawn_protocol.specs.declared.inbox.Intake.{Intake}
use Rattle.spawn_protocol.specs.declared.inbox.Intake.TheVariants as intake
use Rattle.spawn_protocol.specs.declared.request.Request.{Request}
use Rattle.spawn_protocol.specs.Cut.{Cut, cut}
use Rattle.spawn_protocol.specs.Cut.Cut.{More, Whole, TooLong}
use Rattle.spawn_protocol.specs.Inbox.{pull, pulled}
use Rattle.spawner_parts.specs.declared.place.Place.{Place}
use Rattle.spawner_parts.specs.declared.row.Row.TheVariants as at
use Rattle.spawner_parts.specs.Asked.{host_of, is_bad, names_message, runs_in}
use Rattle.spawner_parts.specs.Counts.{asked, one, runs}
use Rattle.spawner_parts.specs.Table.{bad_request, fed, heeded, next_request, opens, reports, with_pulled}
use Rattle.spawner_parts.proofs.Tallies.{or_false}
use Rattle.program_law.specs.Post.Posts.{AreLast, AreRequests, At, Done, Waits, busy, goes_at}
use Rattle.program_law.proofs.Post.Texts.{cut_first}
use Rattle.program_law.proofs.Post.Told.{bad_due}

-- What is so once the next request was taken up, if before that these waited and no request or report was owed.
pub record TakenUp (c : Channel) (done : List Done) (last : ℕ → Option Request) (lives : Bool) (given : List ℕ) (waits : List Request) (running : List Bool) (p : Place) : Type 0 where
  pub still : List Request
  pub asks : Waits true p.inbox.intake lives p.inbox.ahead given still
  pub lasts : AreLast last still
  pub same : p.running ≡ running
  pub stands : At c done last p.row p
  pub fewer : (slot : ℕ) → asked slot still + busy true p.row p slot ≤ asked slot waits + runs slot running
  pub goes : goes_at true p.row ≡ true
  pub greeted : p.row ≢ at.Greet
  pub unstarted : p.row ≢ at.Start

host_there : (o : Option (List ℕ)) → is_none o ≡ false → is_some o ≡ true
host_there None e = absurd (cc)
host_there (Some host) e = refl

pub has_host : (running : List Bool) (r : Request) → is_bad running r ≡ false → is_some (host_of r.recipient) ≡ true
has_host running r good =
    let a = (or_false (nat_le 120 r.slot) _ good).1 in
    let b = (or_false (runs_in running r.slot) _ a).1 in
    host_there (host_of r.recipient) (or_false (not (names_message r.mess)) (is_none (host_of r.recipient)) b).1

one_less : (w m o t : ℕ) → w ≡ o + m → m + ((o + 0) + t) ≤ w + t
one_less w m o t e = omega (arith, e)

none_less : (w t : ℕ) → w + (0 + t) ≤ w + t
none_less w t = omega arith

all_less : (w t : ℕ) → 0 + (0 + t) ≤ w + t
all_less w t = omega arith

module _ (c : Channel) (done : List Done) (last : ℕ → Option Request) (lives : Bool) (given : List ℕ) where
  abbrev Taken : List Request → List Bool → Place → Type 0
  Taken waits running p = TakenUp c done last lives given waits running p

  heeds : (r : Request) (waits more : List Request) (rest : List ℕ) (q : Place) → waits ≡ r ∷ more → last r.slot ≡ Some r → AreLast last more
      → AreRequests lives (rest ++ given) more → Taken waits q.running (heeded (Some r) (record q { inbox = record { ahead = rest; intake = intake.Open } }))
  heeds r waits more rest q is here lasts left = by (is_bad q.running r) refl
    where
      by : (b : Bool) → is_bad q.running r ≡ b
          → Taken waits q.running (if b then reports bad_request r.slot (record q { inbox = record { ahead = rest; intake = intake.Open } }) else opens r (record q { inbox = record { ahead = rest; intake = intake.Open } }))
      by true bad = record {
        still = more;
        asks = left;
        lasts = lasts;
        same = refl;
        stands = bad_due c done last r.slot;
        fewer = λ slot. one_less (asked slot waits) (asked slot more) (one slot r.slot) (runs slot q.running) (ap (asked slot) is);
        goes = refl;
        greeted = λ e. cc;
        unstarted = λ e. cc;
      }
      by false bad = record {
        still = more;
        asks = left;
        lasts = lasts;
        same = refl;
        stands = record { last_is = here; has_host = has_host q.running r bad };
        fewer = λ slot. one_less (asked slot waits) (asked slot more) (one slot r.slot) (runs slot q.running) (ap (asked slot) is);
        goes = refl;
        greeted = λ e. cc;
        unstarted = λ e. cc;
      }

  by_cut : (k : Cut) (ahead : List ℕ) (q : Place) (waits : List Request) → cut ahead ≡ k → AreLast last waits → AreRequests lives (ahead ++ given) waits
      → Taken waits q.running (with_pulled (pulled k (record { ahead = ahead; intake = intake.Open })) q)
  by_cut More ahead q waits is lasts h = record {
    still = waits;
    asks = h;
    lasts = lasts;
    same = refl;
    stands = tt;
    fewer = λ slot. none_less (asked slot waits) (runs slot q.running);
    goes = refl;
    greeted = λ e. cc;
    unstarted = λ e. cc;
  }
  by_cut (Whole r rest) ahead q waits is lasts h =
      let f = cut_first last lives r ahead rest given waits is lasts h in
      let l : AreLast last (r ∷ f.more) = subst (AreLast last) f.is lasts in
      heeds r waits f.more rest q f.is l.0 l.2 f.left
  by_cut TooLong ahead q waits is lasts h = record {
    still = [];
    asks = (refl, refl);
    lasts = tt;
    same = refl;
    stands = tt;
    fewer = λ slot. all_less (asked slot waits) (runs slot q.running);
    goes = refl;
    greeted = λ e. cc;
    unstarted = λ e. cc;
  }

  nothing : (i : Intake) (q : Place) (waits : List Request) → Waits true i lives [] given []
      → Taken waits q.running (with_pulled (pulled (cut []) (record { ahead = []; intake = i })) q)
  nothing i q waits h = record {
    still = [];
    asks = h;
    lasts = tt;
    same = refl;
    stands = tt;
    fewer = λ slot. all_less (asked slot waits) (runs slot q.running);
    goes = refl;
    greeted = λ e. cc;
    unstarted = λ e. cc;
  }

  by_intake : (i : Intake) (ahead : List ℕ) (q : Place) (waits : List Request) → AreLast last waits → Waits true i lives ahead given waits
      → Taken waits q.running (with_pulled (pulled (cut ahead) (record { ahead = ahead; intake = i })) q)
  by_intake intake.Open ahead q waits lasts h = by_cut (cut ahead) ahead q waits refl lasts h
  by_intake intake.Ended ahead q waits lasts h =
      subst (λ (a : List ℕ). Taken waits q.running (with_pulled (pulled (cut a) (record { ahead = a; intake = intake.Ended })) q)) (sym h.1)
      (nothing intake.Ended q waits (refl, refl))
  by_intake intake.TooLong ahead q waits lasts h =
      subst (λ (a : List ℕ). Taken waits q.running (with_pulled (pulled (cut a) (record { ahead = a; intake = intake.TooLong })) q)) (sym h.1)
      (nothing intake.TooLong q waits (refl, refl))

  pub taken_up : (q : Place) (waits : List Request) → AreLast last waits → Waits true q.inbox.intake lives q.inbox.ahead given waits → Taken waits q.running (next_request q)
  taken_up q waits lasts h = by_intake q.inbox.intake q.inbox.ahead q waits lasts h

-- A giving to a program is passed over: the next request is taken up, and nothing is left of the message.

heeded_fed : (o : Option Request) (i : Inbox) (p : Place) → record (heeded o (record p { inbox = i })) { message = [] } ≡ heeded o (record p { inbox = i; message = [] })
heeded_fed None i p = refl
heeded_fed (Some r) i p = by (is_bad p.running r)
  where
    by : (b : Bool) → record (if b then reports bad_request r.slot (record p { inbox = i }) else opens r (record p { inbox = i })) { message = [] }
        ≡ (if b then reports bad_request r.slot (record p { inbox = i; message = [] }) else opens r (record p { inbox = i; message = [] }))
    by true = refl
    by false = refl

pub fed_is : (p : Place) → fed p ≡ next_request (record p { message = [] })
fed_is p = heeded_fed (pull p.inbox).request (pull p.inbox).inbox p
