-- Words of `local` that aren't written out.
use Rattle.std.proofs.Common.{◌≡◌, ◌^◌, ◌<◌, ℕ, List, [], ◌∷◌, Option, Some, None, cond, codes, fold, option_and_then, option_map, refl, ap, ◌∙◌, arith}
use Rattle.std.specs.Result.{result_ok}
use Rattle.std.proofs.lemmas.Bool.{lt-ltb}
use Rattle.call_fs.specs.declared.past.DeliveryWordsData.{DeliveryWordsData}
use Rattle.mail_bytes.specs.Decimal.{digits}
use Rattle.mail_bytes.specs.Escape.{escaped}
use Rattle.mail_bytes.proofs.Digits.{digits_only, number_of-digits}
use Rattle.mail_bytes.proofs.Escaped.{unescaped-escaped}
use Rattle.clap.specs.Words.{matches_of}
use Rattle.clap.specs.Kinds.{Kinds}
use Rattle.clap.specs.Walk.{Row, Text, Walk, finished, is_empty, nothing_held, walked}
use Rattle.clap.specs.Walk.Waiting.{idle, option}
use Rattle.clap.specs.Simple.{Shape, built}
use Rattle.clap.specs.Faults.{fault_of, walk_fault}
use Rattle.clap.proofs.OnLiterals.{clap_on_literals}
use Rattle.command_words.specs.declared.command.Command.TheVariants.{Local}
use Rattle.command_words.specs.declared.command.LocalWords.{LocalWords}
use Rattle.command_words.specs.Delivery.{AreBytes, HasBytes, delivery, delivery_words, local_told, local_told_by, local_words, marked, written}
use Rattle.command_words.specs.Lines.{local_line}
use Rattle.command_words.specs.Numbers.{as_u32, uid_of}
use Rattle.command_words.specs.Reads.{IsNoOption, Reads, command_of}
use Rattle.command_words.proofs.Steps.{Goes, IsPlain, at, ending, goes_nowhere, goes_on, goes_plain, holding, plain_from, row, start}
use Rattle.command_words.proofs.Walks.{no_hyphen}

-- the command of `local`, as clap builds it
abbrev line : Shape
line = (built local_line).top

plain_mark : (text : Text) → IsPlain (61 ∷ text)
plain_mark text = record { dashes = refl; long = refl; short = refl }

-- what was read before the last of the nine words
abbrev rows_before : Text → Text → Text → Text → Text → Text → Text → Text → List Row
rows_before dir user home local dash ext domain sender =
    row (codes "dir") dir ∷ row (codes "user") (61 ∷ user) ∷ row (codes "home") (61 ∷ home) ∷ row (codes "local") (61 ∷ local) ∷ row (codes "dash") (61 ∷ dash) ∷ row (codes "ext") (61 ∷ ext) ∷ row (codes "domain") (61 ∷ domain) ∷ row (codes "sender") (61 ∷ sender) ∷ []

-- DIR and the eight words after it
goes_nine : (dir user home local dash ext domain sender text : Text) (words : List Text) (to : Walk) → IsPlain dir → Goes line (at (holding (rows_before dir user home local dash ext domain sender) (codes "line") (61 ∷ text)) idle 10) words to
    → Goes line start (dir ∷ (61 ∷ user) ∷ (61 ∷ home) ∷ (61 ∷ local) ∷ (61 ∷ dash) ∷ (61 ∷ ext) ∷ (61 ∷ domain) ∷ (61 ∷ sender) ∷ (61 ∷ text) ∷ words) to
unfolding clap_on_literals
goes_nine dir user home local dash ext domain sender text words to plain rest =
    let r0 = row (codes "dir") dir in
    let r1 = row (codes "user") (61 ∷ user) in
    let r2 = row (codes "home") (61 ∷ home) in
    let r3 = row (codes "local") (61 ∷ local) in
    let r4 = row (codes "dash") (61 ∷ dash) in
    let r5 = row (codes "ext") (61 ∷ ext) in
    let r6 = row (codes "domain") (61 ∷ domain) in
    goes_plain line nothing_held idle 1 _ to dir ((61 ∷ user) ∷ (61 ∷ home) ∷ (61 ∷ local) ∷ (61 ∷ dash) ∷ (61 ∷ ext) ∷ (61 ∷ domain) ∷ (61 ∷ sender) ∷ (61 ∷ text) ∷ words) refl plain refl refl
    (goes_plain line (holding [] (codes "dir") dir) idle 2 _ to (61 ∷ user) ((61 ∷ home) ∷ (61 ∷ local) ∷ (61 ∷ dash) ∷ (61 ∷ ext) ∷ (61 ∷ domain) ∷ (61 ∷ sender) ∷ (61 ∷ text) ∷ words) refl (plain_mark user) refl refl
    (goes_plain line (holding (r0 ∷ []) (codes "user") (61 ∷ user)) idle 3 _ to (61 ∷ home) ((61 ∷ local) ∷ (61 ∷ dash) ∷ (61 ∷ ext) ∷ (61 ∷ domain) ∷ (61 ∷ sender) ∷ (61 ∷ text) ∷ words) refl (plain_mark home) refl refl
    (goes_plain line (holding (r0 ∷ r1 ∷ []) (codes "home") (61 ∷ home)) idle 4 _ to (61 ∷ local) ((61 ∷ dash) ∷ (61 ∷ ext) ∷ (61 ∷ domain) ∷ (61 ∷ sender) ∷ (61 ∷ text) ∷ words) refl (plain_mark local) refl refl
    (goes_plain line (holding (r0 ∷ r1 ∷ r2 ∷ []) (codes "local") (61 ∷ local)) idle 5 _ to (61 ∷ dash) ((61 ∷ ext) ∷ (61 ∷ domain) ∷ (61 ∷ sender) ∷ (61 ∷ text) ∷ words) refl (plain_mark dash) refl refl
    (goes_plain line (holding (r0 ∷ r1 ∷ r2 ∷ r3 ∷ []) (codes "dash") (61 ∷ dash)) idle 6 _ to (61 ∷ ext) ((61 ∷ domain) ∷ (61 ∷ sender) ∷ (61 ∷ text) ∷ words) refl (plain_mark ext) refl refl
    (goes_plain line (holding (r0 ∷ r1 ∷ r2 ∷ r3 ∷ r4 ∷ []) (codes "ext") (61 ∷ ext)) idle 7 _ to (61 ∷ domain) ((61 ∷ sender) ∷ (61 ∷ text) ∷ words) refl (plain_mark domain) refl refl
    (goes_plain line (holding (r0 ∷ r1 ∷ r2 ∷ r3 ∷ r4 ∷ r5 ∷ []) (codes "domain") (61 ∷ domain)) idle 8 _ to (61 ∷ sender) ((61 ∷ text) ∷ words) refl (plain_mark sender) refl refl
    (goes_plain line (holding (r0 ∷ r1 ∷ r2 ∷ r3 ∷ r4 ∷ r5 ∷ r6 ∷ []) (codes "sender") (61 ∷ sender)) idle 9 _ to (61 ∷ text) words refl (plain_mark text) refl refl
    rest))))))))

fault_is : (name : Text) (words : List Text) → fault_of local_line (name ∷ words) ≡ ending local_line (walk_fault line [] start words) (fold (walked line.rules []) start words)
fault_is name words = refl

-- where a parse goes over the words, and nothing fails, they tell `local` what clap found
local_goes : (name : Text) (words : List Text) (to : Walk) (told : LocalWords) → Goes line start words to → ending local_line [] to ≡ [] → local_told_by (finished line.rules to.held) ≡ Some told → local_words (name ∷ words) ≡ Some told
unfolding local_words
local_goes name words to told goes fine is =
    let fault : fault_of local_line (name ∷ words) ≡ [] =
    fault_is name words ∙ ap (λ kinds. ending local_line kinds (fold (walked line.rules []) start words)) goes.fine ∙ ap (λ w. ending local_line [] w) goes.ends ∙ fine in
    let read : local_told_by (matches_of local_line (name ∷ words)) ≡ Some told = ap (λ (w : Walk). local_told_by (finished line.rules w.held)) goes.ends ∙ is in
    ap (λ (kinds : Kinds). cond (is_empty kinds) (local_told_by (matches_of local_line (name ∷ words))) None) fault ∙ read

-- what an option leaves, before its value and after it
abbrev rows_all : Text → Text → Text → Text → Text → Text → Text → Text → Text → List Row
rows_all dir user home local dash ext domain sender text =
    row (codes "dir") dir ∷ row (codes "user") (61 ∷ user) ∷ row (codes "home") (61 ∷ home) ∷ row (codes "local") (61 ∷ local) ∷ row (codes "dash") (61 ∷ dash) ∷ row (codes "ext") (61 ∷ ext) ∷ row (codes "domain") (61 ∷ domain) ∷ row (codes "sender") (61 ∷ sender) ∷ row (codes "line") (61 ∷ text) ∷ []

abbrev before_uid : List Row → Walk
before_uid rows = at (record { rows = rows; pending = Some (codes "uid", []); skip = 0 }) (option (codes "uid")) 10

abbrev after_uid : List Row → Text → Walk
after_uid rows text = at (holding rows (codes "uid") text) idle 10

-- the parse of all words
goes_all : (dir user home local dash ext domain sender text number : Text) → IsPlain dir → IsPlain number
    → Goes line start (dir ∷ (61 ∷ user) ∷ (61 ∷ home) ∷ (61 ∷ local) ∷ (61 ∷ dash) ∷ (61 ∷ ext) ∷ (61 ∷ domain) ∷ (61 ∷ sender) ∷ (61 ∷ text) ∷ codes "--uid" ∷ number ∷ [])
    (after_uid (rows_all dir user home local dash ext domain sender text) number)
unfolding clap_on_literals
goes_all dir user home local dash ext domain sender text number plain digit =
    let rows = rows_all dir user home local dash ext domain sender text in
    goes_nine dir user home local dash ext domain sender text (codes "--uid" ∷ number ∷ []) (after_uid rows number) plain
    (goes_on line _ (before_uid rows) (after_uid rows number) (codes "--uid") (number ∷ []) refl refl
    (goes_plain line _ (option (codes "uid")) 10 (after_uid rows number) (after_uid rows number) number [] refl digit refl refl (goes_nowhere line (after_uid rows number))))

-- nothing fails after them
none_fails : (dir user home local dash ext domain sender text number : Text) → ending local_line [] (after_uid (rows_all dir user home local dash ext domain sender text) number) ≡ []
unfolding clap_on_literals
none_fails dir user home local dash ext domain sender text number = refl

-- a written word is read back
back : (text : List ℕ) → AreBytes text → marked (written text) ≡ Some text
back text small = ap result_ok (unescaped-escaped text small)

number_back : (n : ℕ) → n < 2 ^ 32 → uid_of (Some (digits n)) ≡ Some n
number_back n fits =
    let none : Option ℕ = None in
    ap (option_and_then as_u32) (number_of-digits n (omega (arith, fits))) ∙ ap (λ b. cond b (Some n) none) (lt-ltb n (2 ^ 32) fits)

-- eight words, by what each stands for
delivery_is : (d : DeliveryWordsData) (a b c e f g h i : Option Text) → a ≡ Some d.user → b ≡ Some d.home → c ≡ Some d.local → e ≡ Some d.dash → f ≡ Some d.ext → g ≡ Some d.domain → h ≡ Some d.sender → i ≡ Some d.line
    → delivery a b c e f g h i ≡ Some d
delivery_is d a b c e f g h i p q r s t u v w =
    ap (λ x. delivery x b c e f g h i) p
    ∙ ap (λ x. delivery (Some d.user) x c e f g h i) q
    ∙ ap (λ x. delivery (Some d.user) (Some d.home) x e f g h i) r
    ∙ ap (λ x. delivery (Some d.user) (Some d.home) (Some d.local) x f g h i) s
    ∙ ap (λ x. delivery (Some d.user) (Some d.home) (Some d.local) (Some d.dash) x g h i) t
    ∙ ap (λ x. delivery (Some d.user) (Some d.home) (Some d.local) (Some d.dash) (Some d.ext) x h i) u
    ∙ ap (λ x. delivery (Some d.user) (Some d.home) (Some d.local) (Some d.dash) (Some d.ext) (Some d.domain) x i) v
    ∙ ap (λ x. delivery (Some d.user) (Some d.home) (Some d.local) (Some d.dash) (Some d.ext) (Some d.domain) (Some d.sender) x) w

-- what all words tell
tells : (dir : Text) (d : DeliveryWordsData) (n : ℕ) → HasBytes d → n < 2 ^ 32
    → local_told_by (finished line.rules (after_uid (rows_all dir (escaped d.user) (escaped d.home) (escaped d.local) (escaped d.dash) (escaped d.ext) (escaped d.domain) (escaped d.sender) (escaped d.line)) (digits n)).held)
    ≡ Some (record { dir = dir; words = d; uid = n })
unfolding clap_on_literals
tells dir d n small fits =
    let read : delivery (marked (written d.user)) (marked (written d.home)) (marked (written d.local)) (marked (written d.dash)) (marked (written d.ext)) (marked (written d.domain)) (marked (written d.sender)) (marked (written d.line)) ≡ Some d =
    delivery_is d _ _ _ _ _ _ _ _ (back d.user small.user) (back d.home small.home) (back d.local small.local) (back d.dash small.dash) (back d.ext small.ext) (back d.domain small.domain) (back d.sender small.sender) (back d.line small.line) in
    ap (λ o. local_told (Some dir) o (uid_of (Some (digits n)))) read ∙ ap (λ o. local_told (Some dir) (Some d) o) (number_back n fits)

-- what is written of a delivery is read
pub delivered_words : (dir : Text) (d : DeliveryWordsData) (n : ℕ) → IsNoOption dir → HasBytes d → n < 2 ^ 32 → Reads (codes "local" ∷ dir ∷ delivery_words d n) (Local (record { dir = dir; words = d; uid = n }))
unfolding command_of
delivered_words dir d n off small fits =
    let rows = rows_all dir (escaped d.user) (escaped d.home) (escaped d.local) (escaped d.dash) (escaped d.ext) (escaped d.domain) (escaped d.sender) (escaped d.line) in
    ap (option_map Local) (local_goes (codes "local") (dir ∷ delivery_words d n) (after_uid rows (digits n)) (record { dir = dir; words = d; uid = n })
    (goes_all dir (escaped d.user) (escaped d.home) (escaped d.local) (escaped d.dash) (escaped d.ext) (escaped d.domain) (escaped d.sender) (escaped d.line) (digits n) (plain_from dir off) (plain_from (digits n) (no_hyphen (digits n) (digits_only n))))
    (none_fails dir (escaped d.user) (escaped d.home) (escaped d.local) (escaped d.dash) (escaped d.ext) (escaped d.domain) (escaped d.sender) (escaped d.line) (digits n))
    (tells dir d n small fits))
