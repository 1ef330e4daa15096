-- What a channel file is read as are its records.
use Rattle.std.proofs.Common.{◌≡◌, ◌≢◌, ℕ, ◌+◌, List, [], ◌∷◌, ◌++◌, length, Bool, true, false, Option, Some, None, option_map, refl, sym, ap, ◌∙◌, subst, ⊎_elim, arith}
use Rattle.std.specs.Prelude.{All, flat_map, if◌then◌else◌, ◌==◌}
use Rattle.std.proofs.lemmas.List.{append_assoc, append-nil}
use Rattle.std.proofs.lemmas.List.Elements.{All-cons, All-nil}
use Rattle.std.proofs.lemmas.Bool.Decides.{eqb_tells}
use Rattle.envelope_records.specs.declared.channel.Record.{Record}
use Rattle.envelope_records.specs.Records.{letter_of, text_of, AreRecords}
use Rattle.mail_bytes.specs.Texts.{HasNoNul}
use Rattle.send_links.specs.Records.{Within, begin_at, and_then, records_from, records_of}
use Rattle.send_links.specs.Records.Within.{Before, In}
use Rattle.program_law.proofs.Channel.Texts.{At, stands_at}

abbrev not_nul : ℕ → Type 0
not_nul b = b ≢ 0

abbrev plain : Record → Type 0
plain it = HasNoNul it.address

abbrev the_record : Bool → ℕ → List ℕ → Record
the_record done place address = record { done = done; place = place; address = address }

-- from this place on the bytes are these records
pub record Made (at : ℕ) (bs : List ℕ) (rs : List Record) : Type 0 where
  pub text : bs ≡ flat_map text_of rs
  pub clean : All plain rs
  pub placed : At at rs

-- they end the record that is begun, and then are records
pub record Ends (at place : ℕ) (done : Bool) (acc bs : List ℕ) (rs : List Record) : Type 0 where
  pub word : List ℕ
  pub rest : List ℕ
  pub more : List Record
  pub split : bs ≡ word ++ 0 ∷ rest
  pub clean : HasNoNul word
  pub are : rs ≡ the_record done place (acc ++ word) ∷ more
  pub made : Made (at + (length word + 1)) rest more

abbrev Back : ℕ → Within → List ℕ → List Record → Type 0
Back at Before bs rs = Made at bs rs
Back at (In done place acc) bs rs = Ends at place done acc bs rs

some_list : (x y : List Record) → ◌≡◌ {A = Option (List Record)} (Some x) (Some y) → x ≡ y
some_list x y e = cc

mapped : (r : Record) (o : Option (List Record)) (rs : List Record) → option_map (λ more. r ∷ more) o ≡ Some rs
    → (more : List Record) × (o ≡ Some more) × (r ∷ more ≡ rs)
mapped r None rs e = absurd (cc)
mapped r (Some more) rs e = (more, refl, some_list (r ∷ more) rs e)

moved_to : (j k : ℕ) (rest : List ℕ) (more : List Record) → j ≡ k → Made j rest more → Made k rest more
moved_to j k rest more e m = subst (λ i. Made i rest more) e m

whole_record : (b : ℕ) (bs : List ℕ) (at : ℕ) (done : Bool) (rs : List Record) → b ≡ letter_of done → Ends (at + 1) at done [] bs rs → Made at (b ∷ bs) rs
whole_record b bs at done rs letter w =
    let r : Record = the_record done at w.word in
    let m = w.made in
    let inner : bs ≡ (w.word ++ 0 ∷ []) ++ flat_map text_of w.more =
    w.split ∙ ap (λ t. w.word ++ 0 ∷ t) m.text ∙ sym (append_assoc w.word (0 ∷ []) (flat_map text_of w.more)) in
    let made : Made at (b ∷ bs) (r ∷ w.more) = record {
      text = ap (λ x. x ∷ bs) letter ∙ ap (λ t. letter_of done ∷ t) inner;
      clean = All-cons plain r w.more w.clean m.clean;
      placed = (refl, subst (λ k. At k w.more) (let e : (at + 1) + (length w.word + 1) ≡ at + (length w.word + 2) = omega arith in e) m.placed);
    } in
    subst (Made at (b ∷ bs)) (sym w.are) made

read_back : (bs : List ℕ) (at : ℕ) (w : Within) (rs : List Record) → records_from bs at w ≡ Some rs → Back at w bs rs
read_back [] at Before rs e = subst (Made at []) (some_list [] rs e) (record { text = refl; clean = All-nil plain; placed = tt })
read_back [] at (In done place acc) rs e = absurd (cc)
read_back (b ∷ bs) at Before rs e = ⊎_elim
    (λ t.
    let begins : begin_at b at ≡ Some (In false at []) = ap (λ x. if x then Some (In false at []) else (if b == 68 then Some (In true at []) else None)) t.0 in
    whole_record b bs at false rs t.1 (read_back bs (at + 1) (In false at []) rs (sym (ap (λ o. and_then o (records_from bs (at + 1))) begins) ∙ e)))
    (λ f. ⊎_elim
    (λ t.
    let begins : begin_at b at ≡ Some (In true at []) =
    ap (λ x. if x then Some (In false at []) else (if b == 68 then Some (In true at []) else None)) f.0
    ∙ ap (λ x. if x then Some (In true at []) else None) t.0 in
    whole_record b bs at true rs t.1 (read_back bs (at + 1) (In true at []) rs (sym (ap (λ o. and_then o (records_from bs (at + 1))) begins) ∙ e)))
    (λ g.
    let begins : begin_at b at ≡ None =
    ap (λ x. if x then Some (In false at []) else (if b == 68 then Some (In true at []) else None)) f.0
    ∙ ap (λ x. if x then Some (In true at []) else None) g.0 in
    let none : ◌≡◌ {A = Option (List Record)} None (Some rs) = sym (ap (λ o. and_then o (records_from bs (at + 1))) begins) ∙ e in
    absurd (cc))
    (eqb_tells b 68))
    (eqb_tells b 84)
read_back (b ∷ bs) at (In done place acc) rs e =
    let go : Option (List Record) = records_from bs (at + 1) (In done place (acc ++ b ∷ [])) in
    let over : Option (List Record) = option_map (λ more. the_record done place acc ∷ more) (records_from bs (at + 1) Before) in
    ⊎_elim
    (λ t.
    let ends : over ≡ Some rs = sym (ap (λ x. if x then over else go) t.0) ∙ e in
    let w = mapped (the_record done place acc) (records_from bs (at + 1) Before) rs ends in
    let m = read_back bs (at + 1) Before w.0 w.1 in
    record {
      word = [];
      rest = bs;
      more = w.0;
      split = ap (λ x. x ∷ bs) t.1;
      clean = All-nil not_nul;
      are = sym w.2 ∙ ap (λ x. the_record done place x ∷ w.0) (sym (append-nil acc));
      made = moved_to (at + 1) (at + (length {A = ℕ} [] + 1)) bs w.0 (omega arith) m;
    })
    (λ f.
    let ends : go ≡ Some rs = sym (ap (λ x. if x then over else go) f.0) ∙ e in
    let w = read_back bs (at + 1) (In done place (acc ++ b ∷ [])) rs ends in
    record {
      word = b ∷ w.word;
      rest = w.rest;
      more = w.more;
      split = ap (λ t. b ∷ t) w.split;
      clean = All-cons not_nul b w.word f.1 w.clean;
      are = w.are ∙ ap (λ x. the_record done place x ∷ w.more) (append_assoc acc (b ∷ []) w.word);
      made = moved_to ((at + 1) + (length w.word + 1)) (at + (length (b ∷ w.word) + 1)) w.rest w.more (omega arith) w.made;
    })
    (eqb_tells b 0)

pub they_are : (bytes : List ℕ) (rs : List Record) → records_of bytes ≡ Some rs → AreRecords bytes rs
they_are bytes rs e =
    let m = read_back bytes 0 Before rs e in
    record {
      text = m.text;
      plain = m.clean;
      places = λ before after it eq. let p = stands_at 0 rs before after it m.placed eq in (let s : it.place ≡ length (flat_map text_of before) = omega (arith, p) in s);
    }
