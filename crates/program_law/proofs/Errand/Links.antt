-- Each event of a sender and its cleaner.
use Rattle.std.proofs.Common.{◌≡◌, ℕ, suc, ◌+◌, ◌≤◌, List, [], ◌∷◌, ◌++◌, length, take, drop, Option, Some, None, refl, sym, ap, ◌∙◌, subst, ⊎_elim, arith, append_assoc}
use Rattle.std.specs.Prelude.{flat_map, slice_get}
use Rattle.std.proofs.lemmas.List.{append-nil}
use Rattle.queue_clean.specs.declared.command.Command.{Command}
use Rattle.queue_clean.specs.declared.row.Row.{Row}
use Rattle.queue_clean.specs.declared.row.Row.TheVariants as at
use Rattle.queue_clean.specs.Commands.{text_of, commands, ended}
use Rattle.program_law.specs.Errand.Errands.{Awaits, Link, heard, waiting, work_at, at_work, most, texts_of, count, GivesWhole, Errand, SaysWell, asks, asks_in_part, loses, halts}
use Rattle.program_law.specs.Errand.Errands.Awaits.{Nothing, Answer, Over}
use Rattle.program_law.specs.Errand.Laws.{Asks, AsksKeep, LossesKeep, NextWaits}
use Rattle.program_law.proofs.Errand.Texts.{text_plain, one_more, whole_more, part_cases, none_more, commands_grow, get_grows, drop_get, drop_within, heard_longer, read_text}

-- The command that waits

pub record IsFirst (waits : Option Command) (text : List ℕ) (rest : List (List ℕ)) : Type 0 where
  pub command : Command
  pub is : waits ≡ Some command
  pub text_is : text ≡ text_of command
  pub last : rest ≡ []

pub first_waits : (waits : Option Command) (text : List ℕ) (rest : List (List ℕ)) → text ∷ rest ≡ texts_of waits → IsFirst waits text rest
first_waits None text rest e = absurd (cc)
first_waits (Some c) text rest e = record { command = c; is = refl; text_is = cc; last = cc }

pub none_waits : (waits : Option Command) → count waits ≤ 0 → waits ≡ None
none_waits None low = refl
none_waits (Some c) low = absurd (omega arith)

pub idle_is : (waits : Option Command) (x : Link) → Errand waits x → x.awaits ≡ Nothing → (count waits ≡ 0) × ((at_work x.place.row ≡ 0) × (length x.answers ≡ 0))
idle_is waits x E idle =
    let low : count waits + (at_work x.place.row + length x.answers) ≤ 0 = subst (λ w. count waits + (at_work x.place.row + length x.answers) ≤ most w) idle E.one in
    (omega (arith, low), (omega (arith, low), omega (arith, low)))

whole_of : (w : Awaits) (bytes : List ℕ) → w ≡ Nothing → GivesWhole w bytes → bytes ≡ flat_map ended (commands bytes)
whole_of w bytes is h = subst (λ v. GivesWhole v bytes) is h

none_texts : (waits : Option Command) → count waits ≡ 0 → texts_of waits ≡ []
none_texts None low = refl
none_texts (Some c) low = absurd (omega arith)

no_work : (row : Row) → at_work row ≡ 0 → work_at row ≡ None
no_work (at.UnlinkIntd c) e = absurd (omega arith)
no_work (at.UnlinkSecond c) e = absurd (omega arith)
no_work (at.Answer r) e = refl
no_work at.FindPid e = refl
no_work at.StatPid e = refl
no_work (at.JudgePid m) e = refl
no_work at.TakeInput e = refl
no_work (at.Ended s) e = refl

-- A sender that waits for nothing

module _ (waits : Option Command) (x : Link) (E : Errand waits x) (idle : x.awaits ≡ Nothing) where
  whole : heard x ≡ flat_map ended (commands (heard x))
  whole = whole_of x.awaits (heard x) idle E.whole

  none : waiting x ≡ []
  none = E.texts ∙ none_texts waits (idle_is waits x E idle).0

  low : x.place.begun ≤ length (commands (heard x))
  low = let w = heard_longer x.place.taken x.given in let v = E.taken_up in omega (arith, w, v)

  unsaid : SaysWell x → ⊥
  unsaid says =
      let w = idle_is waits x E idle in
      ⊎_elim
      (λ row. let v : at_work x.place.row ≡ 1 = ap at_work row in let u = w.1.0 in omega (arith, v, u))
      (λ bytes. let v : length x.answers ≡ 1 = ap length bytes in let u = w.1.1 in omega (arith, v, u))
      says

  -- the text of a command comes after all that was heard
  one_waits : (c : Command) → drop x.place.begun (commands (x.place.taken ++ (x.given ++ ended (text_of c)))) ≡ text_of c ∷ []
  one_waits c =
      ap (λ (t : List ℕ). drop x.place.begun (commands t)) (sym (append_assoc x.place.taken x.given (ended (text_of c))))
      ∙ ap (drop x.place.begun) (one_more (heard x) (text_of c) whole (text_plain c))
      ∙ drop_within (commands (heard x)) (text_of c ∷ []) x.place.begun low
      ∙ ap (λ (cs : List (List ℕ)). cs ++ text_of c ∷ []) none

  asked : (c : Command) → Asks (Some c) c (asks c x)
  asked c =
      let w = idle_is waits x E idle in
      record {
        keeps = record {
          texts = one_waits c;
          taken_up = E.taken_up;
          one = omega (arith, w);
          whole = sym (append_assoc x.place.taken x.given (ended (text_of c))) ∙ whole_more (heard x) (text_of c) whole (text_plain c)
              ∙ ap (λ (t : List ℕ). flat_map ended (commands t)) (append_assoc x.place.taken x.given (ended (text_of c)));
          errand = λ asked is. record {
            waiting_is = λ other same. cc;
            working_is = λ other same. let v = no_work x.place.row w.1.0 in absurd (cc);
          };
        };
        from = λ other same. cc;
        unanswered = unsaid;
      }

  cut : (c : Command) (wrote : ℕ) (some : Option Command) → ((other : Command) → some ≡ Some other → other ≡ c)
      → drop x.place.begun (commands (x.place.taken ++ (x.given ++ take wrote (ended (text_of c))))) ≡ texts_of some → count some ≤ 1 → Asks some c (asks_in_part c wrote x)
  cut c wrote some from texts few =
      let w = idle_is waits x E idle in
      record {
        keeps = record {
          texts = texts;
          taken_up = E.taken_up;
          one = omega (arith, w, few);
          whole = tt;
          errand = λ asked is. absurd (cc);
        };
        from = from;
        unanswered = unsaid;
      }

  asked_in_part : (c : Command) (wrote : ℕ) → (some : Option Command) × Asks some c (asks_in_part c wrote x)
  asked_in_part c wrote = ⊎_elim
      (λ same. (
        Some c,
        cut c wrote (Some c) (λ other is. cc)
            (ap (λ (t : List ℕ). drop x.place.begun (commands (x.place.taken ++ (x.given ++ t)))) same ∙ one_waits c) (omega arith),
      ))
      (λ plain. (
        None,
        cut c wrote None (λ other is. absurd (cc))
            (ap (λ (t : List ℕ). drop x.place.begun (commands t)) (sym (append_assoc x.place.taken x.given (take wrote (ended (text_of c)))))
            ∙ ap (drop x.place.begun) (none_more (heard x) (take wrote (ended (text_of c))) whole plain) ∙ none) (omega arith),
      ))
      (part_cases (text_of c) wrote (text_plain c))

pub asks_keep : AsksKeep
asks_keep = record {
  whole = λ waits c x E idle. asked waits x E idle c;
  part = λ waits c wrote x E idle. asked_in_part waits x E idle c wrote;
}

-- What is taken up next

pub next_waits : NextWaits
next_waits waits x bytes rest text command E offered got read =
    let all : x.place.taken ++ x.given ≡ (x.place.taken ++ bytes) ++ rest =
    ap (λ (t : List ℕ). x.place.taken ++ t) offered ∙ sym (append_assoc x.place.taken bytes rest) in
    let here = ap (λ (t : List ℕ). slice_get (commands t) x.place.begun) all ∙ get_grows (x.place.taken ++ bytes) rest x.place.begun text got in
    let w = first_waits waits text (drop (suc x.place.begun) (commands (heard x))) (sym (drop_get (commands (heard x)) x.place.begun text here) ∙ E.texts) in
    let same = read_text w.command command text w.text_is read in
    record {
      waiting_is = w.is ∙ ap Some (sym same);
      only = λ asked is. same ∙ (E.errand asked is).waiting_is w.command w.is;
    }

-- Losses

few : (w : Awaits) → most w ≤ 1
few Nothing = omega arith
few (Answer c) = omega arith
few Over = omega arith

lost : (waits : Option Command) (x : Link) → Errand waits x → Errand waits (loses x)
lost waits x E = record {
  texts = E.texts;
  taken_up = E.taken_up;
  one = let w = E.one in let v = few x.awaits in omega (arith, w, v);
  whole = tt;
  errand = λ c is. absurd (cc);
}

-- of the commands that were heard those wait that were taken
record Remains (waits : Option Command) (texts : List (List ℕ)) : Type 0 where
  still : Option Command
  are : texts ≡ texts_of still
  fewer : count still ≤ count waits
  from : (c : Command) → still ≡ Some c → waits ≡ Some c

remains : (waits : Option Command) (texts more : List (List ℕ)) → texts ++ more ≡ texts_of waits → Remains waits texts
remains waits [] more e = record { still = None; are = refl; fewer = omega arith; from = λ c is. absurd (cc) }
remains waits (t ∷ texts) more e =
    let w = first_waits waits t (texts ++ more) e in
    record {
      still = Some w.command;
      are = ap (λ (z : List ℕ). z ∷ texts) w.text_is ∙ ap (λ (zs : List (List ℕ)). text_of w.command ∷ zs) (empty texts more w.last);
      fewer = let v : count waits ≡ 1 = ap count w.is in omega (arith, v);
      from = λ c is. w.is ∙ is;
    }
  where
    empty : (xs ys : List (List ℕ)) → xs ++ ys ≡ [] → xs ≡ []
    empty [] ys same = refl
    empty (z ∷ xs) ys same = absurd (cc)

halted : (waits : Option Command) (x : Link) → Errand waits x → (still : Option Command) × Errand still (halts x) × ((c : Command) → still ≡ Some c → waits ≡ Some c)
halted waits x E =
    let grown = commands_grow x.place.taken x.given in
    let split = sym (drop_within (commands x.place.taken) grown.0 x.place.begun E.taken_up) ∙ ap (drop x.place.begun) (sym grown.1) ∙ E.texts in
    let w = remains waits (drop x.place.begun (commands x.place.taken)) grown.0 split in (
      w.still,
      record {
        texts = ap (λ (t : List ℕ). drop x.place.begun (commands t)) (append-nil x.place.taken) ∙ w.are;
        taken_up = E.taken_up;
        one = let v = E.one in let u = few x.awaits in let f = w.fewer in omega (arith, v, u, f);
        whole = tt;
        errand = λ c is. absurd (cc);
      },
      w.from,
    )

pub losses_keep : LossesKeep
losses_keep = record { lost = lost; halted = halted }
