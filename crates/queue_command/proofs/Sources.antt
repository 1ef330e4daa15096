-- An injector that is fed from a source.
use Rattle.std.proofs.Common.{◌≡◌, ◌≢◌, ◌⊎◌, inl, inr, ⊎_elim, ℕ, ◌+◌, ◌≤◌, ◌<◌, ◌^◌, List, [], ◌∷◌, ◌++◌, length, Option, Some, None, refl, sym, ap, ◌∙◌, subst, arith, append_assoc, length-append}
use Rattle.std.proofs.lemmas.List.{append-nil}
use Rattle.mail_bytes.specs.Netstring.{head}
use Rattle.mail_bytes.specs.Told.{Meets, Rose}
use Rattle.outside.specs.declared.source.Took.{Took}
use Rattle.outside.specs.declared.source.Took.TheVariants.{Got, End, Failed}
use Rattle.outside.specs.Streams.{TakesBytes}
use Rattle.program_runner.proofs.Deeds.{meets_then}
use Rattle.queue_inject.specs.declared.injection.InputEnd.{InputEnd}
use Rattle.queue_inject.specs.declared.injection.InputEnd.TheVariants.{Whole, Unread, Malformed}
use Rattle.queue_inject.specs.Machine.{Machine, room_of}
use Rattle.queue_command.specs.declared.input.Form.{Form}
use Rattle.queue_command.specs.declared.input.Form.TheVariants.{Beside, Netstrings}
use Rattle.queue_command.specs.declared.netstring.Place.{Place}
use Rattle.queue_command.specs.declared.netstring.Place.TheVariants.{Head, Value}
use Rattle.queue_command.specs.Inputs.{Stream, IsReadIn}
use Rattle.queue_command.specs.inside.Reading.{IsOver, IsBad, IsPart, IsCommaRead}
use Rattle.queue_command.specs.Feeding.{IsFed, EndsIn, Feeds}
use Rattle.queue_command.proofs.Feeding.{fed_none, fed_then, asks_some}

-- What a source tells

pub weaker : {X : Type 0} {P Q : X → X → Type 0} (a b : Option X) → ((x y : X) → P x y → Q x y) → Meets a b P → Meets a b Q
weaker None None f h = tt
weaker None (Some y) f h = absurd h
weaker (Some x) None f h = absurd h
weaker (Some x) (Some y) f h = f x y h

pub same : {X : Type 0} (P : X → X → Type 0) (a : Option X) → ((x : X) → P x x) → Meets a a P
same P None f = tt
same P (Some x) f = f x

rose_earlier : (a b c : ℕ) → a ≤ b → Rose b c → Rose a c
rose_earlier a b c h r = omega (arith, h, r)

-- Nothing, and one portion after the other

pub ends_none : (form : Form) (s : Stream) → EndsIn form None s
ends_none Beside s = record { unread = λ e. absurd (cc); not_malformed = λ e. absurd (cc) }
ends_none Netstrings s = tt

pub ends_earlier : (form : Form) (end : Option InputEnd) (a b c : Option (List ℕ)) (f g h : ℕ) → f ≤ g → EndsIn form end (record { old = b; new = c; faults_old = g; faults_new = h })
    → EndsIn form end (record { old = a; new = c; faults_old = f; faults_new = h })
ends_earlier Beside end a b c f g h le e = record { unread = λ is. rose_earlier f g h le (e.unread is); not_malformed = e.not_malformed }
ends_earlier Netstrings end a b c f g h le e = tt

pub feeds_none : (form : Form) (place : Place) (m : Machine) (left : Option (List ℕ)) (faults : ℕ)
    → Feeds form place place m m (record { old = left; new = left; faults_old = faults; faults_new = faults })
feeds_none form place m left faults = record {
  portion = record { bytes = []; end = None };
  fed = fed_none m;
  told = same _ left (λ x earlier before bytes le r. subst (λ t. IsReadIn form place None before x t (Rose earlier faults)) (sym (append-nil bytes)) r);
  ends = ends_none form _;
  counts = omega arith;
}

pub feeds_then : (form : Form) (p q r : Place) (m n k : Machine) (a b c : Option (List ℕ)) (f g h : ℕ) → 0 < room_of n
    → Feeds form p q m n (record { old = a; new = b; faults_old = f; faults_new = g }) → Feeds form q r n k (record { old = b; new = c; faults_old = g; faults_new = h })
    → Feeds form p r m k (record { old = a; new = c; faults_old = f; faults_new = h })
feeds_then form p q r m n k a b c f g h some one two =
    let first = one.portion.bytes in
    let e = asks_some n some in
    let still = one.fed.still e.0 e.1 in
    let going : IsFed m n None first = subst (λ end. IsFed m n end first) still.1 one.fed in
    record {
      portion = record { bytes = first ++ two.portion.bytes; end = two.portion.end };
      fed = fed_then m n k two.portion.end first two.portion.bytes (e.1 ∙ sym still.0) going two.fed;
      told = meets_then _ _ _ (λ x y z t u earlier before bytes le was.
          subst (λ text. IsReadIn form r two.portion.end before z text (Rose earlier h)) (append_assoc bytes first two.portion.bytes)
          (u earlier before (bytes ++ first) (let counts = one.counts in omega arith)
          (subst (λ end. IsReadIn form q end before y (bytes ++ first) (Rose earlier g)) still.1 (t earlier before bytes le was)))) a b c one.told two.told;
      ends = ends_earlier form two.portion.end a b c f g h one.counts two.ends;
      counts = let counts = one.counts in let later = two.counts in omega arith;
    }

-- nothing came of a taking
pub cut_by : (took : Took) (a b : Option (List ℕ)) (f g : ℕ) (into : List ℕ) → (took ≡ End) ⊎ (took ≡ Failed) → Meets a b (λ x y. TakesBytes took into x y) → (took ≡ Failed → Rose f g)
    → Meets a b (λ x y. (x ≡ y) × IsOver y (Rose f g))
cut_by (Got k) a b f g into (inl is) told rose = absurd (cc)
cut_by (Got k) a b f g into (inr is) told rose = absurd (cc)
cut_by End a b f g into is told rose = weaker a b (λ x y t. (t.0 ∙ sym t.1, inl t.1)) told
cut_by Failed a b f g into is told rose = weaker a b (λ x y t. (sym t, inr (rose refl))) told

none_left : (bytes : List ℕ) → 0 + length bytes ≡ length bytes
none_left bytes = omega arith

-- A source of its own

module _ (m n : Machine) (a b : Option (List ℕ)) (f g : ℕ) (later : f ≤ g) where
  pub alone_bytes : (bytes : List ℕ) → IsFed m n None bytes → Meets a b (λ x y. x ≡ bytes ++ y)
      → Feeds Beside Head Head m n (record { old = a; new = b; faults_old = f; faults_new = g })
  alone_bytes bytes fed took = record {
    portion = record { bytes = bytes; end = None };
    fed = fed;
    told = weaker a b (λ x y is earlier before so_far le r. r ∙ ap (λ t. so_far ++ t) is ∙ sym (append_assoc so_far bytes y)) took;
    ends = ends_none Beside _;
    counts = later;
  }

  pub alone_end : IsFed m n (Some Whole) [] → Meets a b (λ x y. (x ≡ []) × (y ≡ []))
      → Feeds Beside Head Head m n (record { old = a; new = b; faults_old = f; faults_new = g })
  alone_end fed took = record {
    portion = record { bytes = []; end = Some Whole };
    fed = fed;
    told = weaker a b (λ x y is earlier before so_far le r. (r ∙ ap (λ t. so_far ++ t) (is.0 ∙ sym is.1) ∙ sym (append_assoc so_far [] y), is.1)) took;
    ends = record { unread = λ e. absurd (cc); not_malformed = λ e. absurd (cc) };
    counts = later;
  }

  pub alone_failed : IsFed m n (Some Unread) [] → Meets a b (λ x y. y ≡ x) → Rose f g
      → Feeds Beside Head Head m n (record { old = a; new = b; faults_old = f; faults_new = g })
  alone_failed fed took rose = record {
    portion = record { bytes = []; end = Some Unread };
    fed = fed;
    told = weaker a b (λ x y is earlier before so_far le r. (r ∙ ap (λ t. so_far ++ t) (sym is) ∙ sym (append_assoc so_far [] y), rose_earlier earlier f g le rose)) took;
    ends = record { unread = λ e. rose; not_malformed = λ e. absurd (cc) };
    counts = later;
  }

  -- A netstring

  pub net_bytes : (left after : ℕ) (bytes : List ℕ) → left ≡ after + length bytes → IsFed m n None bytes → Meets a b (λ x y. x ≡ bytes ++ y)
      → Feeds Netstrings (Value left) (Value after) m n (record { old = a; new = b; faults_old = f; faults_new = g })
  net_bytes left after bytes count fed took = record {
    portion = record { bytes = bytes; end = None };
    fed = fed;
    told = weaker a b (λ x y is earlier before so_far le r.
        let size = length-append so_far bytes in
        let same : left + length so_far ≡ after + length (so_far ++ bytes) = omega arith in
        r ∙ ap (λ t. head (left + length so_far) ++ t) (ap (λ t. so_far ++ t) is ∙ sym (append_assoc so_far bytes y))
        ∙ ap (λ k. head k ++ ((so_far ++ bytes) ++ y)) same) took;
    ends = tt;
    counts = later;
  }

  pub net_cut : (left : ℕ) (place : Place) → IsFed m n (Some Unread) [] → Meets a b (λ x y. (x ≡ y) × IsOver y (Rose f g))
      → Feeds Netstrings (Value left) place m n (record { old = a; new = b; faults_old = f; faults_new = g })
  net_cut left place fed took = record {
    portion = record { bytes = []; end = Some Unread };
    fed = fed;
    told = weaker a b (λ x y is earlier before so_far le r.
        let whole : so_far ++ [] ≡ so_far = append-nil so_far in
        let size = ap length whole in (
          inr (
            left + length so_far,
            omega arith,
            r ∙ ap (λ t. head (left + length so_far) ++ t) (ap (λ t. so_far ++ t) is.0 ∙ ap (λ t. t ++ y) (sym whole)),
          ),
          ⊎_elim (λ over. inl over) (λ rose. inr (rose_earlier earlier f g le rose)) is.1,
        )) took;
    ends = tt;
    counts = later;
  }

  pub net_comma : IsFed m n (Some Whole) [] → Meets a b (λ x y. x ≡ 44 ∷ y)
      → Feeds Netstrings (Value 0) Head m n (record { old = a; new = b; faults_old = f; faults_new = g })
  net_comma fed took = record {
    portion = record { bytes = []; end = Some Whole };
    fed = fed;
    told = weaker a b (λ x y is earlier before so_far le r.
        (refl, subst (λ t. before ≡ head (length t) ++ (t ++ 44 ∷ y)) (sym (append-nil so_far)) (subst (λ k. before ≡ head k ++ (so_far ++ x)) (none_left so_far) r ∙ ap (λ t. head (length so_far) ++ (so_far ++ t)) is))) took;
    ends = tt;
    counts = later;
  }

  pub net_bad_comma : IsFed m n (Some Malformed) [] → Meets a b (λ x y. (byte : ℕ) × (byte ≢ 44) × (x ≡ byte ∷ y))
      → Feeds Netstrings (Value 0) Head m n (record { old = a; new = b; faults_old = f; faults_new = g })
  net_bad_comma fed took = record {
    portion = record { bytes = []; end = Some Malformed };
    fed = fed;
    told = weaker a b (λ x y is earlier before so_far le r. inr (record {
      byte = is.0;
      other = is.1;
      text = subst (λ t. before ≡ head (length t) ++ (t ++ is.0 ∷ y)) (sym (append-nil so_far)) (subst (λ k. before ≡ head k ++ (so_far ++ x)) (none_left so_far) r ∙ ap (λ t. head (length so_far) ++ (so_far ++ t)) is.2);
    })) took;
    ends = tt;
    counts = later;
  }

  -- by what came in place of the comma
  pub net_end : (end : InputEnd) → IsFed m n (Some end) [] → Meets a b (λ x y. IsCommaRead end x y (Rose f g))
      → Feeds Netstrings (Value 0) Head m n (record { old = a; new = b; faults_old = f; faults_new = g })
  net_end Whole fed took = net_comma fed took
  net_end Malformed fed took = net_bad_comma fed took
  net_end Unread fed took = net_cut 0 Head fed took

  pub net_bad_head : (place : Place) → IsFed m n (Some Malformed) [] → Meets a b (λ x y. IsBad x y)
      → Feeds Netstrings Head place m n (record { old = a; new = b; faults_old = f; faults_new = g })
  net_bad_head place fed took = record {
    portion = record { bytes = []; end = Some Malformed };
    fed = fed;
    told = weaker a b (λ x y is earlier before so_far le r. inl (record {
      part = is.part;
      byte = is.byte;
      begins = is.begins;
      none = is.none;
      text = r.0 ∙ is.text;
      no_value = append-nil so_far ∙ r.1;
    })) took;
    ends = tt;
    counts = later;
  }

  pub net_cut_head : (place : Place) → IsFed m n (Some Unread) [] → Meets a b (λ x y. IsPart x y × IsOver y (Rose f g))
      → Feeds Netstrings Head place m n (record { old = a; new = b; faults_old = f; faults_new = g })
  net_cut_head place fed took = record {
    portion = record { bytes = []; end = Some Unread };
    fed = fed;
    told = weaker a b (λ x y is earlier before so_far le r. (
      inl (is.0.0, is.0.1, r.0 ∙ is.0.2, append-nil so_far ∙ r.1),
      ⊎_elim (λ over. inl over) (λ rose. inr (rose_earlier earlier f g le rose)) is.1,
    )) took;
    ends = tt;
    counts = later;
  }

pub net_head : (m : Machine) (a b : Option (List ℕ)) (f g n : ℕ) → f ≤ g → Meets a b (λ x y. (n < 2 ^ 64) × (x ≡ head n ++ y))
    → Feeds Netstrings Head (Value n) m m (record { old = a; new = b; faults_old = f; faults_new = g })
net_head m a b f g n later took = record {
  portion = record { bytes = []; end = None };
  fed = fed_none m;
  told = weaker a b (λ x y is earlier before so_far le r.
      let none : so_far ++ [] ≡ [] = append-nil so_far ∙ r.1 in
      let zero : n ≡ n + 0 = omega arith in
      subst (λ t. before ≡ head (n + length t) ++ (t ++ y)) (sym none) (r.0 ∙ is.1 ∙ ap (λ k. head k ++ y) zero)) took;
  ends = tt;
  counts = later;
}
