-- The addresses to which lines of a .qmail file forward have no NUL.
use Rattle.std.proofs.Common.{◌≡◌, ℕ, ◌==◌, List, [], ◌∷◌, Bool, true, false, Option, Some, None, refl, subst, if◌then◌else◌}
use Rattle.std.specs.Prelude.{◌||◌, nat_eq}
use Rattle.std.specs.List.{cons_option, ends_with, filter_map}
use Rattle.call_fs.specs.declared.past.Own.{Own}
use Rattle.dot_qmail.specs.declared.choice.Chosen.{Chosen}
use Rattle.dot_qmail.specs.declared.choice.Chosen.TheVariants as chosen
use Rattle.dot_qmail.specs.declared.line.Line.{Line}
use Rattle.dot_qmail.specs.declared.line.Line.TheVariants as line
use Rattle.dot_qmail.specs.Lines.{begins_blank, line_of, lines, path_line, plan_of, said, said_by, until_nul}
use Rattle.mail_bytes.specs.Texts.{trimmed, HasNoNul}
use Rattle.local_deliver.specs.Carried.{Reaches, instructions, of_choice, of_file, of_read}
use Rattle.local_deliver.specs.Carried.Reaches.{AtEnd, AtStop, PastCommand, PastForward, PastMaildir}
use Rattle.local_deliver.specs.Deeds.{Exited, FileText, read_of, told_names}
use Rattle.local_deliver.specs.Deeds.FileText.{Missing, SoFar, Unopened, Whole}
use Rattle.local_parts.specs.declared.arguments.LocalArgs.{LocalArgs}
use Rattle.local_parts.specs.Choosing.{chosen_by, file_name}
use Rattle.local_parts.specs.Course.{default_text}
use Rattle.local_parts.specs.Forwarding.{forwards}
use Rattle.program_law.proofs.Post.Told.{first_plain}
use Rattle.world_law.proofs.Envelopes.{ArePlain}

abbrev IsPlainLine : Line → Type 0
IsPlainLine (line.Forward address) = HasNoNul address
IsPlainLine other = Unit {0}

abbrev ArePlainLines : List Line → Type 0
ArePlainLines [] = Unit {0}
ArePlainLines (l ∷ ls) = IsPlainLine l × ArePlainLines ls

-- A line

plain_if : (t : Bool) (x y : Line) → IsPlainLine x → IsPlainLine y → IsPlainLine (if t then x else y)
plain_if true x y h k = h
plain_if false x y h k = k

said_plain : (text : List ℕ) (b : ℕ) (rest : List ℕ) → IsPlainLine (said_by text b rest)
said_plain text b rest =
    let address : Line = if b == 38 then line.Forward (until_nul rest) else line.Forward (until_nul text) in
    let path : Line = if b == 46 || b == 47 then path_line text else address in
    plain_if (b == 124) (line.Command rest) path tt
    (plain_if (b == 46 || b == 47) (path_line text) address (plain_if (ends_with nat_eq text (47 ∷ [])) (line.Maildir text) (line.Mailbox text) tt tt)
    (plain_if (b == 38) (line.Forward (until_nul rest)) (line.Forward (until_nul text)) (first_plain rest) (first_plain text)))

unless_plain : (t : Bool) (x l : Line) → IsPlainLine x → (if t then None else Some x) ≡ Some l → IsPlainLine l
unless_plain true x l h e = absurd (cc)
unless_plain false x l h e = let same : x ≡ l = cc in subst (λ (z : Line). IsPlainLine z) same h

line_plain : (text : List ℕ) (l : Line) → said text ≡ Some l → IsPlainLine l
line_plain [] l e = absurd (cc)
line_plain (b ∷ rest) l e = unless_plain (b == 35 || b == 43) (said_by (b ∷ rest) b rest) l (said_plain (b ∷ rest) b rest) e

-- The lines of a file

consed_plain : (o : Option Line) (ls : List Line) → ((l : Line) → o ≡ Some l → IsPlainLine l) → ArePlainLines ls → ArePlainLines (cons_option o ls)
consed_plain None ls each h = h
consed_plain (Some l) ls each h = (each l refl, h)

lines_plain : (pieces : List (List ℕ)) → ArePlainLines (filter_map line_of pieces)
lines_plain [] = tt
lines_plain (piece ∷ pieces) = consed_plain (line_of piece) (filter_map line_of pieces) (λ l e. line_plain (trimmed piece) l e) (lines_plain pieces)

unless_lines : (t : Bool) (xs ls : List Line) → ArePlainLines xs → (if t then None else Some xs) ≡ Some ls → ArePlainLines ls
unless_lines true xs ls h e = absurd (cc)
unless_lines false xs ls h e = let same : xs ≡ ls = cc in subst (λ (z : List Line). ArePlainLines z) same h

plan_plain : (bytes : List ℕ) (ls : List Line) → plan_of bytes ≡ Some ls → ArePlainLines ls
unfolding plan_of
plan_plain bytes ls e = unless_lines (begins_blank bytes) (filter_map line_of (lines bytes)) ls (lines_plain (lines bytes)) e

file_plain : (args : LocalArgs) (bytes : List ℕ) (ls : List Line) → of_file args bytes ≡ Some ls → ArePlainLines ls
file_plain args [] ls e = plan_plain (default_text args) ls e
file_plain args (b ∷ bytes) ls e = plan_plain (b ∷ bytes) ls e

read_plain : (args : LocalArgs) (read : FileText) (ls : List Line) → of_read args read ≡ Some ls → ArePlainLines ls
read_plain args Unopened ls e = absurd (cc)
read_plain args Missing ls e = absurd (cc)
read_plain args (SoFar bytes) ls e = absurd (cc)
read_plain args (Whole bytes) ls e = file_plain args bytes ls e

choice_plain : (args : LocalArgs) (names : List (List ℕ)) (o : Option Chosen) (read : List ℕ → FileText) (ls : List Line) → of_choice args names o read ≡ Some ls → ArePlainLines ls
choice_plain args names None read ls e = absurd (cc)
choice_plain args names (Some chosen.Default) read ls e = plan_plain (default_text args) ls e
choice_plain args names (Some (chosen.File place)) read ls e = read_plain args (read (file_name args names place)) ls e

-- and those that were reached

reached_plain : (ls : List Line) (es : List Exited) (rs : List Line) → Reaches ls es rs → ArePlainLines ls → ArePlainLines rs
reached_plain ls es rs AtEnd h = tt
reached_plain ls es rs (PastForward address more exited reached r) h = (h.0, reached_plain more exited reached r h.1)
reached_plain ls es rs (PastMaildir path more exited reached r) h = (tt, reached_plain more exited reached r h.1)
reached_plain ls es rs (PastCommand text more exited reached r) h = (tt, reached_plain more exited reached r h.1)
reached_plain ls es rs (AtStop text more) h = (tt, tt)

addresses_plain : (ls : List Line) → ArePlainLines ls → ArePlain (forwards ls)
addresses_plain [] h = tt
addresses_plain (line.Forward address ∷ more) h = (h.0, addresses_plain more h.1)
addresses_plain (line.Command text ∷ more) h = addresses_plain more h.1
addresses_plain (line.Maildir path ∷ more) h = addresses_plain more h.1
addresses_plain (line.Mailbox path ∷ more) h = addresses_plain more h.1

pub forwards_plain : (args : LocalArgs) (past : List Own) (ls : List Line) (es : List Exited) (rs : List Line) → instructions args past ≡ Some ls → Reaches ls es rs → ArePlain (forwards rs)
forwards_plain args past ls es rs told reaches =
    addresses_plain rs (reached_plain ls es rs reaches (choice_plain args (told_names args.home past) (chosen_by args (told_names args.home past)) (λ name. read_of name past) ls told))
