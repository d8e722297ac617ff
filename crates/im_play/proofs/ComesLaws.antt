-- What a line and those behind it come to.
use Rattle.std.proofs.Common.{◌≡◌, ℕ, List, ◌∷◌, Option, Some, None, refl, sym, ap}
use Rattle.im_play.specs.Machine.{Comes, IsAnswered, Machine, number_of, put}
use Rattle.im_play.specs.Requests.{LineDemand, Nothing, Told, Asks, Orders, asked}
use Rattle.im_replies.specs.declared.reply.Reply.{Reply}
use Rattle.im_script.specs.declared.line.LineKind.{LineKind}
use Rattle.im_script.specs.declared.line.LineKind.TheVariants as kind

-- what a line asks for has the line's number
abbrev pub HasNumber : ℕ → LineDemand → Type 0
HasNumber n Nothing = Unit {0}
HasNumber n (Told number reply) = number ≡ n
HasNumber n (Asks request) = request.number ≡ n
HasNumber n (Orders command) = command.number ≡ n

pub asked-number : (area n : ℕ) (k : LineKind) → HasNumber n (asked area n k)
asked-number area n kind.Skip = tt
asked-number area n kind.Race = tt
asked-number area n (kind.Long length) = refl
asked-number area n (kind.Bad byte) = refl
asked-number area n (kind.Session who statement) = refl
asked-number area n (kind.Background statement) = refl
asked-number area n kind.NoMemory = refl

-- a line that asks for it is put under its number
put-number : (before after : ℕ) (demand : LineDemand) (number : ℕ) (reply : Option Reply) (old new : Machine) (answers : List (ℕ × Reply))
    → HasNumber number demand → IsAnswered before after demand old reply new → put number reply answers ≡ put (number_of demand) reply answers
put-number before after demand number None old new answers same answered = refl
put-number before after Nothing number (Some reply) old new answers same answered = absurd answered
put-number before after (Told n told) number (Some reply) old new answers same answered = ap (λ (m : ℕ). (m, reply) ∷ answers) (sym same)
put-number before after (Asks request) number (Some reply) old new answers same answered = ap (λ (m : ℕ). (m, reply) ∷ answers) (sym same)
put-number before after (Orders command) number (Some reply) old new answers same answered = ap (λ (m : ℕ). (m, reply) ∷ answers) (sym same)

-- what a line comes to, and then others
pub line_first : (demands : List LineDemand) (answers : List (ℕ × Reply)) (end : Machine) (before now after : ℕ) (old new : Machine) (demand : LineDemand)
    (number : ℕ) (reply : Option Reply) → HasNumber number demand → IsAnswered before now demand old reply new
    → Comes new demands answers end now after → Comes old (demand ∷ demands) (put number reply answers) end before after
line_first demands answers end before now after old new demand number reply same answered played =
    (reply, answers, new, now, answered, put-number before now demand number reply old new answers same answered, played)
