-- The reading of a rule image: its sheet, or the refusal's cause and place.
use Rattle.std.specs.Prelude.{ℕ, zero, suc, ◌-◌, ◌/◌, ◌%◌, List, cond, ltb, length, replicate, Result, Ok}
use Rattle.refusals.specs.declared.Cause.TheVariants.{NoMeaning, PastLimits, NotEnded}
use Rattle.refusals.specs.declared.Refusal.{Refusal}
use Rattle.refusals.specs.Numbers.{refused}
use Rattle.bits.specs.Place.{Place, At, Refused, Read, number_at}
use Rattle.rules.specs.Nothing.{no_rule}
use Rattle.rules.specs.declared.Rule.{Rule}
use Rattle.rules.specs.declared.Sheet.{Sheet}
use Rattle.rule_image.specs.Listed.{listed}
use Rattle.rule_image.specs.RuleAt.{rule_at}
use Rattle.rule_image.specs.declared.Header.{Header}

abbrev pub rules_at : List ℕ → ℕ → Place → ℕ → Read (List Rule)
rules_at s edition = listed (rule_at s edition) (replicate 32 no_rule)

-- edition 4 (1), reserved 6 (0), rule count 6 (0 to 32)
unfoldable pub header_at : List ℕ → Read Header
header_at s =
    let e : Read ℕ = number_at s (At 0) 4 1 1 NoMeaning in
    let v : Read ℕ = number_at s e.place 6 0 0 NoMeaning in
    let n : Read ℕ = number_at s v.place 6 0 32 PastLimits in
    record { item = record { edition = e.item; count = n.item }; place = n.place }

-- edition 4 (1), reserved 6 (0), rule count 6 (0 to 32), the rules
unfoldable pub sheet_at : List ℕ → Read Sheet
sheet_at s =
    let e : Read ℕ = number_at s (At 0) 4 1 1 NoMeaning in
    let v : Read ℕ = number_at s e.place 6 0 0 NoMeaning in
    let n : Read ℕ = number_at s v.place 6 0 32 PastLimits in
    let r : Read (List Rule) = rules_at s e.item n.place n.item in
    record { item = record { count = n.item; rules = r.item }; place = r.place }

-- the bits from a place to the end of its byte
abbrev pub fill_count : Place → ℕ
fill_count (At a) = (8 - a % 8) % 8
fill_count (Refused c b) = 0

-- k zero bits; another bit is refused at that bit, as not ended
unfoldable pub fill_bits : List ℕ → Place → ℕ → Place
fill_bits s p zero = p
fill_bits s p (suc k) = (number_at s (fill_bits s p k) 1 0 0 NotEnded).place

-- nothing follows: bytes after are refused at their first bit, as not ended
unfoldable pub ended : List ℕ → Place → Place
ended s (At a) = cond (ltb (a / 8) (length s)) (Refused NotEnded a) (At a)
ended s (Refused c b) = Refused c b

-- zero bits fill the last byte, and nothing follows
unfoldable pub filled : List ℕ → Place → Place
filled s p = ended s (fill_bits s p (fill_count p))

abbrev pub no_sheet : Sheet
no_sheet = record { count = 0; rules = replicate 32 no_rule }

-- the answer to one who asks where a reading stands: the bit, or the refusal
abbrev pub stand : Place → Result ℕ Refusal
stand (At a) = Ok a
stand (Refused c b) = refused c b

-- the sheet of an accepted image; a refused one has none
abbrev pub kept : Place → Sheet → Sheet
kept (At a) x = x
kept (Refused c b) x = no_sheet

unfoldable pub reading : List ℕ → Read Sheet
reading s =
    let r : Read Sheet = sheet_at s in
    let e : Place = filled s r.place in
    record { item = kept e r.item; place = e }

-- the answer to one who reads: the sheet, or the refusal
abbrev pub sheet_of : Place → Sheet → Result Sheet Refusal
sheet_of (At a) x = Ok x
sheet_of (Refused c b) x = refused c b

abbrev pub sheet_on : List ℕ → Result Sheet Refusal
sheet_on s = sheet_of (reading s).place (reading s).item

-- the answer to one who only checks: how many rules there are, or the refusal
abbrev pub verdict_of : Place → Sheet → Result ℕ Refusal
verdict_of (At a) x = Ok x.count
verdict_of (Refused c b) x = refused c b

abbrev pub verdict_on : List ℕ → Result ℕ Refusal
verdict_on s = verdict_of (reading s).place (reading s).item
