use Rattle.std.proofs.Common.{◌≡◌, ◌++◌, [], ◌∷◌, None, length, take, zip, sym, ap, ◌∙◌, subst, arith, rules}
use Rattle.std.specs.Prelude.{option_map}
use Rattle.std.proofs.Math.Seq.{take-length}
use Rattle.std.proofs.lemmas.List.{length_push}
use Rattle.std.proofs.lemmas.Result.{err_from_is_err_and}
use Rattle.std.proofs.lemmas.Slice.Zip.{zip_turn, zip_end, length-zip}
use Rattle.dw_script.specs.declared.status.Status.TheVariants.{BadScript}
use Rattle.dw_journal.specs.Worlds.{AreShort}
use Rattle.dw_input.specs.Scripts.{bad_script, refusal_of, givens_of}
use Rattle.dw_input.proofs.Causes.{good_more, MayReject-scripts}
use Rattle.dw_input.proofs.Short.{short_push}
use Rattle.dw_input.proofs.ScriptsRead.{at_ok, scripts_more}
use Rattle.dw_input.proofs.scripts.read_scripts.Goals as goal

-- the script of this turn is the first that is rejected
pub returns-in_err-script-clause-rejected : goal.returns-in_err-script-clause-rejected
returns-in_err-script-clause-rejected c =
    let names = c.args.names.now in
    let files = c.args.files.now in
    let at = zip_turn names files c.loop-name.yielded c.into_iter-name-iterator.result c.loop-name.name-iterator c.next.new.self c.next.result (search rules) (search rules) c.loop-name.yielded_by (c.in-Some.name, c.in-Some.bytes) c.in-Some.is c.next.ensures.steps in
    let p = err_from_is_err_and c.from_residual.result c.from_residual.ensures.1 in
    rw (p.1, p.2) (MayReject-scripts names files (length c.loop-name.yielded) c.in-Some.name.now c.in-Some.bytes.now _ at.0 at.1 (at.2 _) (at.3 _) c.loop-name.invariant.good (rw c.as_slice.ensures.items at c.in_err-script.ensures.rejected))

-- the script of this turn is one more that is read
pub loop-name-preserved : goal.loop-name-preserved
loop-name-preserved c =
    let names = c.args.names.now in
    let files = c.args.files.now in
    let name = c.in-Some.name.now in
    let bytes = c.in-Some.bytes.now in
    let script = c.in_ok-script.script in
    let at = zip_turn names files c.loop-name.yielded c.into_iter-name-iterator.result c.loop-name.name-iterator c.next.new.self c.next.result (search rules) (search rules) c.loop-name.yielded_by (c.in-Some.name, c.in-Some.bytes) c.in-Some.is c.next.ensures.steps in
    let pushed : c.push.new.self ≡ c.loop-name.scripts ++ script ∷ [] = at_ok c.push.result (sym c.is_err.ensures.value ∙ c.if-is_err.false) c.push.ensures.ok in
    let read : refusal_of (name, bytes) ≡ None = ap (λ bytes. refusal_of (name, bytes)) (sym c.as_slice.ensures.items) ∙ ap (option_map (BadScript name)) c.in_ok-script.ensures.read in
    let is : script ≡ givens_of bytes = c.in_ok-script.ensures.givens ∙ ap givens_of c.as_slice.ensures.items in
    rw length_push record {
      scripts = pushed ∙ scripts_more files (length c.loop-name.yielded) bytes c.loop-name.scripts script at.1 (at.3 _) c.loop-name.invariant.scripts is;
      good = good_more names files (length c.loop-name.yielded) name bytes at.0 at.1 (at.2 _) (at.3 _) c.loop-name.invariant.good read;
      short = subst AreShort (sym pushed) (short_push c.loop-name.scripts script c.loop-name.invariant.short (omega (arith, c.in_ok-script.ensures.few)));
    }

-- after the last turn all are
pub returns-clause-read : goal.returns-clause-read
returns-clause-read c =
    let names = c.args.names.now in
    let files = c.args.files.now in
    let ended = zip_end names files c.loop-name.yielded c.into_iter-name-iterator.result c.loop-name.name-iterator c.next.new.self c.next.result (search rules) (search rules) c.loop-name.yielded_by c.in-None.is c.next.ensures.steps in
    let whole = ap (λ n. take n (zip names files)) (ended ∙ sym (length-zip names files)) ∙ take-length (zip names files) in
    ap bad_script (sym whole) ∙ c.loop-name.invariant.good
