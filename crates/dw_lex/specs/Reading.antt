-- The tokens of a statement.
use Rattle.std.specs.Prelude.{◌≡◌, ℕ, suc, zero, ◌+◌, ◌-◌, Option, Some, None, Result, Ok, Err, List, [], ◌∷◌, length}
use Rattle.dw_lex.specs.Gaps.{gap_at}
use Rattle.dw_lex.specs.Forms.{token_at}
use Rattle.dw_lex.specs.declared.token.Form.{Form}
use Rattle.dw_lex.specs.declared.token.Token.{Token}
use Rattle.dw_lex.specs.declared.fault.LexFault.{LexFault}
use Rattle.dw_lex.specs.declared.fault.LexFault.TheVariants.{Foreign, Memory}

-- what is read: tokens, or the place where none begins
abbrev pub ReadTokens : Type 0
ReadTokens = Result (List Token) ℕ

-- the token with these bytes at this place of the statement
abbrev pub token_of : ℕ → Form × List ℕ → Token
token_of place (form, bytes) = record { form = form; text = bytes; start = place; end = place + length bytes }

-- the token comes before those that are read after it
abbrev pub with_first : Token → ReadTokens → ReadTokens
with_first token (Ok tokens) = Ok (token ∷ tokens)
with_first token (Err place) = Err place

-- A blank or a comment stands for nothing, a token for itself, and anything else is foreign at its place. `gap` is how
-- many bytes the blank or comment takes, and `rest inside` is what is read from the next byte on, of which so many
-- still belong to what began here.
abbrev pub read_piece : ℕ → Option (Form × List ℕ) → ℕ → (ℕ → ReadTokens) → ReadTokens
read_piece (suc inside) found place rest = rest inside
read_piece zero None place rest = Err place
read_piece zero (Some found) place rest = with_first (token_of place found) (rest (length found.1 - 1))

-- what is read of bytes from a place of the statement on, of which the first `inside` belong to the token or comment
-- before
unfoldable pub read_from : List ℕ → ℕ → ℕ → ReadTokens
read_from [] place inside = Ok []
read_from (b ∷ bs) place (suc inside) = read_from bs (place + 1) inside
read_from (b ∷ bs) place zero =
    read_piece (gap_at (b ∷ bs)) (token_at (b ∷ bs)) place (λ inside. read_from bs (place + 1) inside)

-- the tokens of a statement, or the first place where none begins
abbrev pub read_tokens : List ℕ → ReadTokens
read_tokens bytes = read_from bytes 0 0

-- The call returned what is read, unless memory ran out.
abbrev pub Gives : Result (List Token) LexFault → ReadTokens → Type 0
Gives (Ok tokens) read = read ≡ Ok tokens
Gives (Err (Foreign place)) read = read ≡ Err place
Gives (Err Memory) read = Unit {0}

-- The call returned the token that was found at the place, or said that there is none, unless memory ran out.
abbrev pub GivesToken : Result Token LexFault → ℕ → Option (Form × List ℕ) → Type 0
GivesToken (Ok token) place None = ⊥
GivesToken (Ok token) place (Some found) = token ≡ token_of place found
GivesToken (Err (Foreign at)) place found = (found ≡ None) × (at ≡ place)
GivesToken (Err Memory) place found = Unit {0}
