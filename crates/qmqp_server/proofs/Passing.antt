-- The rest of a package is read, and an injector that has ended is given none of it.
use Rattle.std.proofs.Common.{◌≡◌, ◌⊎◌, inl, inr, ℕ, ◌≤◌, List, [], ◌++◌, true, false, Option, None, refl, sym, ap, ◌∙◌, subst, append_assoc}
use Rattle.std.proofs.lemmas.List.{append-nil}
use Rattle.queue_command.specs.Inputs.{Portion, Heard}
use Rattle.qmqp_server.specs.declared.reader.Next.{Next}
use Rattle.qmqp_server.specs.declared.reader.Next.TheVariants as next
use Rattle.qmqp_server.specs.declared.reader.Reader.{Reader}
use Rattle.qmqp_server.specs.Faults.{IsBroken}
use Rattle.qmqp_server.specs.inside.Places.Got.{InMessage, Between, InAddress, Whole}
use Rattle.qmqp_server.specs.inside.Places.{Got, heard_of, heard_on, part_of, portion_of, is_over_at, is_over, Stands, GoesOn, FindsNul, Breaks, IsStepOf, Steps, Suits, ReadsOn, PassesOver}
use Rattle.qmqp_server.proofs.Taken.{dry_if_cut, stream, takes_none, takes_then}

-- What was heard, beside what was read later

pub suits_self : (got : Got) → Suits (heard_of got) (heard_of got)
suits_self (InMessage t) = record { message = inl refl; envelope_end = refl; envelope_rest = []; envelope = sym (append-nil []) }
suits_self (Between m tos) = record { message = inl refl; envelope_end = refl; envelope_rest = []; envelope = sym (append-nil (heard_of (Between m tos)).envelope.bytes) }
suits_self (InAddress m tos t) = record { message = inl refl; envelope_end = refl; envelope_rest = []; envelope = sym (append-nil (heard_of (InAddress m tos t)).envelope.bytes) }
suits_self (Whole m s rs) = record { message = inl refl; envelope_end = refl; envelope_rest = []; envelope = sym (append-nil (heard_of (Whole m s rs)).envelope.bytes) }

-- more of a message that isn't over
message_on : (heard : Portion) (t more : List ℕ) → (heard ≡ record { bytes = t; end = None }) ⊎ ((heard.end ≡ None) × (rest : List ℕ) × (t ≡ heard.bytes ++ rest))
    → (heard.end ≡ None) × (rest : List ℕ) × (t ++ more ≡ heard.bytes ++ rest)
message_on heard t more (inl same) = (ap (λ (p : Portion). p.end) same, more, ap (λ (p : Portion). p.bytes ++ more) (sym same))
message_on heard t more (inr (over, rest, is)) = (over, rest ++ more, ap (λ b. b ++ more) is ∙ append_assoc heard.bytes rest more)

envelope_on : (bytes t rest more : List ℕ) → t ≡ bytes ++ rest → t ++ more ≡ bytes ++ (rest ++ more)
envelope_on bytes t rest more is = ap (λ b. b ++ more) is ∙ append_assoc bytes rest more

suits_on : (got : Got) (portion : Portion) (heard : Heard) → Suits heard (heard_of got) → Suits heard (heard_on (part_of got) (heard_of got) portion)
suits_on (InMessage t) portion heard s =
    record { message = inr (message_on heard.message t portion.bytes s.message); envelope_end = s.envelope_end; envelope_rest = s.envelope_rest; envelope = s.envelope }
suits_on (Between m tos) portion heard s = record {
  message = s.message;
  envelope_end = s.envelope_end;
  envelope_rest = s.envelope_rest ++ portion.bytes;
  envelope = envelope_on heard.envelope.bytes (heard_of (Between m tos)).envelope.bytes s.envelope_rest portion.bytes s.envelope;
}
suits_on (InAddress m tos t) portion heard s = record {
  message = s.message;
  envelope_end = s.envelope_end;
  envelope_rest = s.envelope_rest ++ portion.bytes;
  envelope = envelope_on heard.envelope.bytes (heard_of (InAddress m tos t)).envelope.bytes s.envelope_rest portion.bytes s.envelope;
}
suits_on (Whole m a rs) portion heard s = record {
  message = s.message;
  envelope_end = s.envelope_end;
  envelope_rest = s.envelope_rest ++ portion.bytes;
  envelope = envelope_on heard.envelope.bytes (heard_of (Whole m a rs)).envelope.bytes s.envelope_rest portion.bytes s.envelope;
}

-- Nothing, and one step more

pub passes_none : (r : Reader) (left : Option (List ℕ)) (faults : ℕ) → PassesOver r r (stream left faults left faults)
passes_none r left faults = record {
  more = [];
  takes = takes_none left faults;
  over = λ e. (refl, refl, refl, refl);
  on = λ got read stands. inl (record { later = got; stands = subst (λ t. Stands r got t) (sym (append-nil read)) stands; nul = λ e. e; suits = λ none heard s. s });
}

module _ (o r q : Reader) (a b c : Option (List ℕ)) (f g h : ℕ) (first second : List ℕ) (got : Got) (read : List ℕ) (early : f ≤ g) where
  abbrev Later : Type 0
  Later = ReadsOn o q got (read ++ (first ++ second)) ⊎ Breaks q (read ++ (first ++ second)) (stream a f c h)

  joined : (read ++ first) ++ second ≡ read ++ (first ++ second)
  joined = append_assoc read first second

  goes : (before : ReadsOn o r got (read ++ first)) (portion : Portion) → GoesOn r q before.later ((read ++ first) ++ second) portion → Later
  goes before portion on = inl (record {
    later = on.later;
    stands = subst (λ t. Stands q on.later t) joined on.stands;
    nul = λ e. on.nul ∙ before.nul e;
    suits = λ none heard s. subst (λ k. Suits heard k) (sym on.gives) (suits_on before.later portion heard (before.suits (sym on.nul ∙ none) heard s));
  })

  finds : (before : ReadsOn o r got (read ++ first)) → FindsNul q before.later ((read ++ first) ++ second) → Later
  finds before nul = inl (record {
    later = nul.later;
    stands = subst (λ t. Stands q nul.later t) joined nul.stands;
    nul = λ e. nul.nul;
    suits = λ none heard s. let no : true ≡ false = sym nul.nul ∙ none in absurd (cc);
  })

  broke : Breaks q ((read ++ first) ++ second) (stream b g c h) → Later
  broke breaks = inr (record {
    fault = breaks.fault;
    place = breaks.place;
    broken = subst (λ t. IsBroken breaks.fault t) joined breaks.broken;
    dry = dry_if_cut breaks.fault a b c f g h early breaks.dry;
  })

  stepped : (result : Next) (buffer : List ℕ) (before : ReadsOn o r got (read ++ first)) → IsStepOf result r q before.later ((read ++ first) ++ second) (stream b g c h) buffer → Later
  stepped (next.Bytes count) buffer before on = goes before (portion_of (next.Bytes count) buffer) on
  stepped next.MessageOver buffer before on = goes before (portion_of next.MessageOver buffer) on
  stepped next.Nothing buffer before (inl nul) = finds before nul
  stepped next.Nothing buffer before (inr breaks) = broke breaks

pub passes_then : (o r q : Reader) (a b c : Option (List ℕ)) (f g h most : ℕ) (result : Next) (buffer : List ℕ) → is_over r ≡ false → PassesOver o r (stream a f b g)
    → Steps result r q most (stream b g c h) buffer → PassesOver o q (stream a f c h)
passes_then o r q a b c f g h most result buffer under p s = record {
  more = p.more ++ s.more;
  takes = takes_then a b c f g h p.more s.more p.takes s.takes;
  over = λ e. let no : true ≡ false = sym (ap is_over (p.over e).0 ∙ e) ∙ under in absurd (cc);
  on = λ got read stands. by_first got read (p.on got read stands);
} where
  by_first : (got : Got) (read : List ℕ) → ReadsOn o r got (read ++ p.more) ⊎ Breaks r (read ++ p.more) (stream a f b g) → ReadsOn o q got (read ++ (p.more ++ s.more)) ⊎ Breaks q (read ++ (p.more ++ s.more)) (stream a f c h)
  by_first got read (inl before) = stepped o r q a b c f g h p.more s.more got read p.takes.counts result buffer before (s.on before.later (read ++ p.more) before.stands)
  by_first got read (inr breaks) = let no : true ≡ false = sym (ap is_over_at breaks.place) ∙ under in absurd (cc)
