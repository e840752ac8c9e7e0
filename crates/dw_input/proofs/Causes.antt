-- The first script that can't be read.
use Rattle.std.proofs.Common.{◌≡◌, ℕ, ◌+◌, ◌<◌, List, [], ◌∷◌, ◌++◌, length, take, drop, get_or, zip, ap, sym, refl, ◌∙◌, subst, arith}
use Rattle.std.specs.Prelude.{Option, Some, None}
use Rattle.std.specs.Option.{option_or}
use Rattle.std.proofs.lemmas.List.{take-append-drop, drop_more, take_more}
use Rattle.std.proofs.lemmas.Slice.Zip.{get_or-zip, length-zip}
use Rattle.dw_script.specs.declared.status.Status.{Status}
use Rattle.dw_script.specs.declared.status.Status.TheVariants.{Memory}
use Rattle.dw_input.specs.Scripts.{refusal_of, bad_script}
use Rattle.dw_input.specs.Statuses.{MayReject}

grouped : (first second third both : Option Status) → both ≡ option_or second third
    → option_or first both ≡ option_or (option_or first second) third
grouped None second third both is = is
grouped (Some bad) second third both is = refl

bad_append : (scripts more : List (List ℕ × List ℕ)) → bad_script (scripts ++ more) ≡ option_or (bad_script scripts) (bad_script more)
bad_append [] more = refl
bad_append (script ∷ scripts) more = grouped (refusal_of script) (bad_script scripts) (bad_script more) (bad_script (scripts ++ more)) (bad_append scripts more)

module _ (names files : List (List ℕ)) (place : ℕ) (name bytes : List ℕ) (among_names : place < length names)
    (among_files : place < length files) (name_is : name ≡ get_or names place name) (bytes_is : bytes ≡ get_or files place bytes) where
  -- the script at a place, beside its name
  placed : get_or (zip names files) place (name, bytes) ≡ (name, bytes)
  placed = get_or-zip names files place (name, bytes) among_names among_files ∙ ap (λ name. (name, get_or files place bytes)) (sym name_is) ∙ ap (λ bytes. (name, bytes)) (sym bytes_is)

  within : place < length (zip names files)
  within = rw (length-zip names files) (omega arith)

  pub good_more : bad_script (take place (zip names files)) ≡ None → refusal_of (name, bytes) ≡ None
      → bad_script (take (place + 1) (zip names files)) ≡ None
  good_more good this =
      ap bad_script (take_more (zip names files) place (name, bytes) within)
      ∙ bad_append (take place (zip names files)) (get_or (zip names files) place (name, bytes) ∷ [])
      ∙ ap (λ found. option_or found (bad_script (get_or (zip names files) place (name, bytes) ∷ []))) good
      ∙ ap (λ script. bad_script (script ∷ [])) placed ∙ ap (λ found. option_or found None) this

  bad_here : (bad : Status) → bad_script (take place (zip names files)) ≡ None → refusal_of (name, bytes) ≡ Some bad
      → bad_script (zip names files) ≡ Some bad
  bad_here bad good this =
      ap bad_script (sym (take-append-drop place (zip names files)) ∙ ap (λ more. take place (zip names files) ++ more) (drop_more (zip names files) place (name, bytes) within))
      ∙ bad_append (take place (zip names files)) (get_or (zip names files) place (name, bytes) ∷ drop (place + 1) (zip names files))
      ∙ ap (λ found. option_or found (bad_script (get_or (zip names files) place (name, bytes) ∷ drop (place + 1) (zip names files)))) good
      ∙ ap (λ script. bad_script (script ∷ drop (place + 1) (zip names files))) placed
      ∙ ap (λ found. option_or found (bad_script (drop (place + 1) (zip names files)))) this

-- want of memory may always be told
of_memory : (whole : Option Status) → MayReject whole Memory
of_memory None = refl
of_memory (Some bad) = tt

rejected_by : (this whole : Option Status) (status : Status) → ((bad : Status) → this ≡ Some bad → whole ≡ Some bad)
    → MayReject this status → MayReject whole status
rejected_by None whole status so is = subst (MayReject whole) (sym is) (of_memory whole)
rejected_by (Some bad) whole status so may = subst (λ (found : Option Status). MayReject found status) (sym (so bad refl)) may

-- where the script at this place may be rejected so, and none before it, they all may
pub MayReject-scripts : (names files : List (List ℕ)) (place : ℕ) (name bytes : List ℕ) (status : Status) → place < length names → place < length files
    → name ≡ get_or names place name → bytes ≡ get_or files place bytes → bad_script (take place (zip names files)) ≡ None
    → MayReject (refusal_of (name, bytes)) status → MayReject (bad_script (zip names files)) status
MayReject-scripts names files place name bytes status among_names among_files name_is bytes_is good may =
    rejected_by (refusal_of (name, bytes)) (bad_script (zip names files)) status
    (λ bad this. bad_here names files place name bytes among_names among_files name_is bytes_is bad good this) may
