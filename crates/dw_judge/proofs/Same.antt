-- Tests of sameness tell what is the same.
use Rattle.std.proofs.Common.{◌≡◌, ℕ, zero, suc, true, List, refl, sym, ap, ◌∙◌}
use Rattle.std.specs.Bool.{Decides}
use Rattle.std.proofs.lemmas.Bool.{eqb-true}
use Rattle.std.proofs.lemmas.Bool.Decides.{Decides-eqb}
use Rattle.std.proofs.lemmas.Slice.Eq.{slice_eq-Decides}
use Rattle.dw_model.specs.declared.answers.Word.{Word}
use Rattle.dw_model.specs.declared.answers.Word.TheVariants as words
use Rattle.dw_model.specs.Binding.{same_name}
use Rattle.dw_judge.specs.Dues.{same_word, word_number}

pub same_name-decides : (a b : List ℕ) → Decides (same_name a b) (a ≡ b)
same_name-decides a b = slice_eq-Decides Decides-eqb a b (same_name a b) refl

word_of : ℕ → Word
word_of zero = words.Begin
word_of (suc zero) = words.Commit
word_of (suc (suc zero)) = words.Rollback
word_of (suc (suc (suc zero))) = words.CreateTable
word_of (suc (suc (suc (suc zero)))) = words.DropTable
word_of (suc (suc (suc (suc (suc zero))))) = words.LockTable
word_of (suc (suc (suc (suc (suc (suc zero)))))) = words.Insert
word_of (suc (suc (suc (suc (suc (suc (suc n))))))) = words.Select

word_back : (word : Word) → word_of (word_number word) ≡ word
unfolding word_of
word_back words.Begin = refl
word_back words.Commit = refl
word_back words.Rollback = refl
word_back words.CreateTable = refl
word_back words.DropTable = refl
word_back words.LockTable = refl
word_back words.Insert = refl
word_back words.Select = refl

-- words of one number are the same
pub word_one : (a b : Word) → same_word a b ≡ true → a ≡ b
word_one a b is = sym (word_back a) ∙ ap word_of (eqb-true (word_number a) (word_number b) is) ∙ word_back b

pub same_name-true : (a b : List ℕ) → same_name a b ≡ true → a ≡ b
same_name-true a b is = (same_name-decides a b).0 is

pub same_name-self : (a : List ℕ) → same_name a a ≡ true
same_name-self a = (same_name-decides a a).1 refl
