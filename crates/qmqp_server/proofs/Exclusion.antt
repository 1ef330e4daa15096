-- Bytes that are malformed begin no package, and those that are cut hold none.
use Rattle.std.proofs.Common.{◌≡◌, ◌≢◌, ⊎_elim, ℕ, ◌+◌, ◌≤◌, ◌<◌, ◌^◌, List, [], ◌∷◌, ◌++◌, length, take, refl, sym, ap, ◌∙◌, subst, arith, append_assoc, length-append}
use Rattle.std.specs.Prelude.{All}
use Rattle.std.proofs.Math.Seq.{take-append_seam}
use Rattle.std.proofs.lemmas.Bool.{cases_lt}
use Rattle.std.proofs.lemmas.List.{append-nil, take-append-le}
use Rattle.std.proofs.lemmas.List.Concat.{flat_map-cons}
use Rattle.std.proofs.lemmas.List.Elements.{All-head, All-tail, All-take}
use Rattle.mail_bytes.specs.Decimal.{digits}
use Rattle.mail_bytes.specs.Netstring.{head, netstring, IsPartOfHead, IsNoHead}
use Rattle.mail_bytes.proofs.Digits.{digits_injective}
use Rattle.qmqp_server.specs.Package.{longest}
use Rattle.qmqp_server.specs.Faults.{HasBadHead, IsWithin, IsMalformed, IsCut, FaultsExcludePackages, CutsExcludePackages}
use Rattle.qmqp_server.specs.Faults.IsCut.{InFirstHead, InHead, InNetstring, BeforeLastComma}
use Rattle.qmqp_server.specs.Faults.IsMalformed.{BadHead, BadInnerHead, TooSoon, Past, BadComma, BadLastComma}
use Rattle.qmqp_server.proofs.Netstrings.{cut_at, no_colon, one_netstring, parts, same_length}
use Rattle.qmqp_server.proofs.Values.{head_some, netstring_size, texts_of}

-- Heads

head_cut : (n : ℕ) (x : List ℕ) → head n ++ x ≡ digits n ++ 58 ∷ x
head_cut n x = append_assoc (digits n) (58 ∷ []) x

no_head : (x rest z : List ℕ) (n : ℕ) → IsNoHead x → n < 2 ^ 64 → x ++ rest ≡ head n ++ z → ⊥
no_head x rest z n none fits is = ⊎_elim
    (λ short. none.1 (n, fits, (short, sym (sym (take-append_seam x rest) ∙ ap (take (length x)) is ∙ take-append-le (length x) (head n) z (omega arith)))))
    (λ long. none.0 n (length (head n)) (record {
      fits = fits;
      within = long;
      text = sym (take-append-le (length (head n)) x rest long) ∙ ap (take (length (head n))) is ∙ take-append_seam (head n) z;
    }))
    (cases_lt (length x) (length (head n)))

colon_there : (a c : List ℕ) → All (λ x. x ≢ 58) (a ++ 58 ∷ c) → ⊥
colon_there [] c p = All-head (λ x. x ≢ 58) 58 c p refl
colon_there (x ∷ a) c p = colon_there a c (All-tail (λ y. y ≢ 58) x (a ++ 58 ∷ c) p)

-- a part of a head has no colon
part_plain : (part : List ℕ) → IsPartOfHead part → All (λ x. x ≢ 58) part
part_plain part (n, fits, (short, begins)) =
    let size = length-append (digits n) (58 ∷ []) in
    subst (All (λ x. x ≢ 58)) (sym (take-append-le (length part) (digits n) (58 ∷ []) (omega arith)) ∙ begins) (All-take (λ x. x ≢ 58) (length part) (digits n) (no_colon n))

-- Contents

first_text : (t : List ℕ) (ts : List (List ℕ)) (x : List ℕ) → texts_of (t ∷ ts) ++ x ≡ netstring t ++ (texts_of ts ++ x)
first_text t ts x = ap (λ b. b ++ x) (flat_map-cons netstring t ts) ∙ append_assoc (netstring t) (texts_of ts) x

first_size : (t : List ℕ) (ts : List (List ℕ)) → length (texts_of (t ∷ ts)) ≡ (length (head (length t)) + (length t + 1)) + length (texts_of ts)
first_size t ts =
    let whole = ap length (flat_map-cons netstring t ts) in
    let both = length-append (netstring t) (texts_of ts) in
    let one = netstring_size t in
    omega arith

-- The texts that come after these, of those that a content has.
record Remains (ts us : List (List ℕ)) (x rest y : List ℕ) : Type 0 where
  others : List (List ℕ)
  split : us ≡ ts ++ others
  same : x ++ rest ≡ texts_of others ++ 44 ∷ y
  size : length (texts_of us) ≡ length (texts_of ts) + length (texts_of others)

remains : (ts us : List (List ℕ)) (x rest y : List ℕ) → texts_of ts ++ (x ++ rest) ≡ texts_of us ++ 44 ∷ y → length (texts_of ts) + length x ≤ length (texts_of us) → Remains ts us x rest y
remains [] us x rest y is fits = record { others = us; split = refl; same = is; size = omega arith }
remains (t ∷ ts) [] x rest y is fits = absurd (let size = first_size t ts in omega arith)
remains (t ∷ ts) (u ∷ us) x rest y is fits =
    let one = one_netstring t u (texts_of ts ++ (x ++ rest)) (texts_of us ++ 44 ∷ y) (sym (first_text t ts (x ++ rest)) ∙ is ∙ first_text u us (44 ∷ y)) in
    let first : t ≡ u = one.0 in
    let long = ap length first in
    let heads = ap (λ k. length (head (length k))) first in
    let left = first_size t ts in
    let right = first_size u us in
    let r = remains ts us x rest y one.1 (omega arith) in
    let after : us ≡ ts ++ r.others = r.split in
    record { others = r.others; split = cc; same = r.same; size = let size = r.size in omega arith }

-- what was read of a package whose content has these texts
content_of_read : (promised : ℕ) (ts us : List (List ℕ)) (x rest y : List ℕ) → (head promised ++ (texts_of ts ++ x)) ++ rest ≡ netstring (texts_of us) ++ y
    → (promised ≡ length (texts_of us)) × (texts_of ts ++ (x ++ rest) ≡ texts_of us ++ 44 ∷ y)
content_of_read promised ts us x rest y is =
    let cut = cut_at 58 (digits promised) (texts_of ts ++ (x ++ rest)) (digits (length (texts_of us))) (texts_of us ++ 44 ∷ y) (no_colon promised) (no_colon (length (texts_of us)))
    (sym (append_assoc (head promised) (texts_of ts ++ x) rest ∙ ap (λ t. head promised ++ t) (append_assoc (texts_of ts) x rest) ∙ head_cut promised (texts_of ts ++ (x ++ rest)))
    ∙ is ∙ parts (texts_of us) y) in
    (digits_injective promised (length (texts_of us)) cut.0, cut.1)

-- Each fault

module _ (us : List (List ℕ)) (rest y : List ℕ) (few : length (texts_of us) ≤ longest) (two : 2 ≤ length us) where
  begun : (read : List ℕ) (ts : List (List ℕ)) (x : List ℕ) → (w : IsWithin read ts x) → read ++ rest ≡ netstring (texts_of us) ++ y → (w.promised ≡ length (texts_of us)) × Remains ts us x rest y
  begun read ts x w is =
      let c = content_of_read w.promised ts us x rest y (ap (λ t. t ++ rest) (sym w.text) ∙ is) in
      (c.0, remains ts us x rest y c.1 (let fits = w.fits in let same = c.0 in omega arith))

  past_by : (others : List (List ℕ)) (n : ℕ) → head n ++ rest ≡ texts_of others ++ 44 ∷ y → length (head n) ≤ length (texts_of others) → length (texts_of others) ≤ length (head n) + n → ⊥
  past_by [] n is fits past = let some = head_some n in omega arith
  past_by (v ∷ vs) n is fits past =
      let cut = cut_at 58 (digits n) rest (digits (length v)) (v ++ 44 ∷ (texts_of vs ++ 44 ∷ y)) (no_colon n) (no_colon (length v))
      (sym (head_cut n rest) ∙ is ∙ first_text v vs (44 ∷ y) ∙ parts v (texts_of vs ++ 44 ∷ y)) in
      let same : n ≡ length v = digits_injective n (length v) cut.0 in
      let heads = ap (λ k. length (head k)) same in
      let size = first_size v vs in
      omega arith

  comma_by : (others : List (List ℕ)) (t : List ℕ) (byte : ℕ) → byte ≢ 44 → (head (length t) ++ (t ++ byte ∷ [])) ++ rest ≡ texts_of others ++ 44 ∷ y
      → length (head (length t) ++ (t ++ byte ∷ [])) ≤ length (texts_of others) → ⊥
  comma_by [] t byte other is fits = let some = head_some (length t) in let size = length-append (head (length t)) (t ++ byte ∷ []) in omega arith
  comma_by (v ∷ vs) t byte other is fits =
      let cut = cut_at 58 (digits (length t)) (t ++ byte ∷ rest) (digits (length v)) (v ++ 44 ∷ (texts_of vs ++ 44 ∷ y)) (no_colon (length t)) (no_colon (length v))
      (sym (append_assoc (head (length t)) (t ++ byte ∷ []) rest ∙ ap (λ b. head (length t) ++ b) (append_assoc t (byte ∷ []) rest) ∙ head_cut (length t) (t ++ byte ∷ rest))
      ∙ is ∙ first_text v vs (44 ∷ y) ∙ parts v (texts_of vs ++ 44 ∷ y)) in
      let values = same_length t v (byte ∷ rest) (44 ∷ (texts_of vs ++ 44 ∷ y)) (digits_injective (length t) (length v) cut.0) cut.1 in
      let last : byte ∷ rest ≡ 44 ∷ (texts_of vs ++ 44 ∷ y) = values.1 in
      other (cc)

  inner_by : (others : List (List ℕ)) (more : List ℕ) → HasBadHead more → more ++ rest ≡ texts_of others ++ 44 ∷ y → length more ≤ length (texts_of others) → length (texts_of others) ≤ longest → ⊥
  inner_by [] more bad is fits short = let some = ap length bad.text in let size = length-append bad.part (bad.byte ∷ []) in omega arith
  inner_by (v ∷ vs) more bad is fits short =
      let size = first_size v vs in
      no_head more rest (v ++ 44 ∷ (texts_of vs ++ 44 ∷ y)) (length v) (subst IsNoHead (sym bad.text) bad.none) (omega arith)
      (is ∙ first_text v vs (44 ∷ y) ∙ parts v (texts_of vs ++ 44 ∷ y) ∙ sym (head_cut (length v) (v ++ 44 ∷ (texts_of vs ++ 44 ∷ y))))

  soon_by : (others : List (List ℕ)) (ts : List (List ℕ)) (part : List ℕ) → us ≡ ts ++ others → IsPartOfHead part → (part ≡ [] → length ts < 2) → part ++ rest ≡ texts_of others ++ 44 ∷ y
      → length part ≡ length (texts_of others) → ⊥
  soon_by [] ts [] split begins none is all = let size = ap length (split ∙ append-nil ts) in let few = none refl in omega arith
  soon_by [] ts (x ∷ part) split begins none is all = omega arith
  soon_by (v ∷ vs) ts part split begins none is all =
      let same = (same_length part (texts_of (v ∷ vs)) rest (44 ∷ y) all is).0 in
      colon_there (digits (length v)) (v ++ 44 ∷ texts_of vs)
      (subst (All (λ x. x ≢ 58)) (same ∙ flat_map-cons netstring v vs ∙ parts v (texts_of vs)) (part_plain part begins))

  pub excludes : (read : List ℕ) → IsMalformed read → read ++ rest ≡ netstring (texts_of us) ++ y → ⊥
  excludes read (BadHead bad) is =
      no_head read rest ((texts_of us ++ 44 ∷ []) ++ y) (length (texts_of us)) (subst IsNoHead (sym bad.text) bad.none) (omega arith)
      (is ∙ append_assoc (head (length (texts_of us))) (texts_of us ++ 44 ∷ []) y)
  excludes read (BadInnerHead b) is =
      let r = begun read b.texts b.more b.within is in
      inner_by r.1.others b.more b.bad r.1.same (let fits = b.within.fits in let same = r.0 in let size = r.1.size in omega arith) (let size = r.1.size in omega arith)
  excludes read (TooSoon t) is =
      let r = begun read t.texts t.part t.within is in
      soon_by r.1.others t.texts t.part r.1.split t.begins t.few r.1.same (let over = t.over in let same = r.0 in let size = r.1.size in omega arith)
  excludes read (Past p) is =
      let r = begun read p.texts (head p.value) p.within is in
      past_by r.1.others p.value r.1.same (let fits = p.within.fits in let same = r.0 in let size = r.1.size in omega arith)
      (let past = p.past in let same = r.0 in let size = r.1.size in omega arith)
  excludes read (BadComma b) is =
      let r = begun read b.texts (head (length b.last) ++ (b.last ++ b.byte ∷ [])) b.within is in
      comma_by r.1.others b.last b.byte b.other r.1.same (let fits = b.within.fits in let same = r.0 in let size = r.1.size in omega arith)
  excludes read (BadLastComma b) is =
      let c = content_of_read b.after.promised b.texts us (b.byte ∷ []) rest y (ap (λ t. t ++ rest) (sym b.after.text) ∙ is) in
      let rests : b.byte ∷ rest ≡ 44 ∷ y = (same_length (texts_of b.texts) (texts_of us) (b.byte ∷ rest) (44 ∷ y) (sym b.after.size ∙ c.0) c.1).1 in
      b.other (cc)

pub faults_exclude : FaultsExcludePackages
faults_exclude read rest text more m s rs short is malformed same =
    excludes (m ∷ (s ∷ rs)) rest more short (omega arith) read malformed (same ∙ ap (λ t. t ++ more) is)

-- What is cut

cut_within : (us ts : List (List ℕ)) (x y read : List ℕ) → (w : IsWithin read ts x) → read ≡ netstring (texts_of us) ++ y → ⊥
cut_within us ts x y read w is =
    let c = content_of_read w.promised ts us x [] y (append-nil (head w.promised ++ (texts_of ts ++ x)) ∙ sym w.text ∙ is) in
    let same = ap length c.1 in
    let left = length-append (texts_of ts) (x ++ []) in
    let last = ap length (append-nil x) in
    let right = length-append (texts_of us) (44 ∷ y) in
    let fits = w.fits in
    let one = c.0 in
    omega arith

cut_excludes : (us : List (List ℕ)) (y read : List ℕ) → IsCut read → read ≡ netstring (texts_of us) ++ y → ⊥
cut_excludes us y read (InFirstHead begins) is =
    colon_there (digits (length (texts_of us))) (texts_of us ++ 44 ∷ y) (subst (All (λ x. x ≢ 58)) (is ∙ parts (texts_of us) y) (part_plain read begins))
cut_excludes us y read (InHead h) is = cut_within us h.texts h.part y read h.within is
cut_excludes us y read (InNetstring n) is = cut_within us n.texts (head n.value ++ n.begun) y read n.within is
cut_excludes us y read (BeforeLastComma b) is =
    cut_within us b.texts [] y read (record { promised = b.after.promised; text = b.after.text; fits = let size = b.after.size in omega arith; short = b.after.short }) is

pub cuts_exclude : CutsExcludePackages
cuts_exclude read text more m s rs is cut same = cut_excludes (m ∷ (s ∷ rs)) more read cut (same ∙ ap (λ t. t ++ more) is)
