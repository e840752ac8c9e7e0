-- What follows for a statement that was run alone and is done: its reply, and the database that it leaves.
use Rattle.std.proofs.Common.{◌≡◌, ap}
use Rattle.std.specs.Prelude.{Result, Ok, Err}
use Rattle.dw_model.specs.declared.answers.Answer.{Answer as Reply}
use Rattle.dw_model.specs.declared.answers.Plain.TheVariants.{Done}
use Rattle.dw_model.specs.declared.changes.Outcome.{Outcome}
use Rattle.dw_model.specs.declared.refusals.Refusal.{Refusal}
use Rattle.dw_model.specs.declared.statements.Statement.{Statement}
use Rattle.dw_model.specs.Databases.{Tables}
use Rattle.dw_model.specs.Files.{Files}
use Rattle.dw_model.specs.Changes.{changed}
use Rattle.dw_model.specs.Alone.{alone, outcome_on, plain_of, change_in, reply_in, next_of, reply_of}

done_next : (outcome : Result Outcome Refusal) (tables next : Tables) (answer : Reply) → plain_of tables outcome ≡ Done answer next
    → changed (change_in outcome) tables ≡ next
done_next (Ok outcome) tables next answer done = cc
done_next (Err refusal) tables next answer done = cc

done_reply : (outcome : Result Outcome Refusal) (tables next : Tables) (answer : Reply) → plain_of tables outcome ≡ Done answer next
    → reply_in outcome ≡ Ok answer
done_reply (Ok outcome) tables next answer done = let same : outcome.answer ≡ answer = cc in ap Ok same
done_reply (Err refusal) tables next answer done = cc

reply_done : (outcome : Result Outcome Refusal) (tables : Tables) (answer : Reply) → reply_in outcome ≡ Ok answer
    → plain_of tables outcome ≡ Done answer (changed (change_in outcome) tables)
reply_done (Ok outcome) tables answer reply =
    let same : outcome.answer ≡ answer = cc in
    ap (λ (a : Reply). Done a (changed outcome.change tables)) same
reply_done (Err refusal) tables answer reply = cc

module _ (files : Files) (statement : Statement) (tables : Tables) where
  -- a done statement leaves the next database, and replies its answer
  pub next_of-done : (next : Tables) (answer : Reply) → alone files statement tables ≡ Done answer next → next_of files statement tables ≡ next
  next_of-done next answer done = done_next (outcome_on files statement tables) tables next answer done

  pub reply_of-done : (next : Tables) (answer : Reply) → alone files statement tables ≡ Done answer next → reply_of files statement tables ≡ Ok answer
  reply_of-done next answer done = done_reply (outcome_on files statement tables) tables next answer done

  -- a statement that replies an answer is done
  pub alone-replied : (answer : Reply) → reply_of files statement tables ≡ Ok answer → alone files statement tables ≡ Done answer (next_of files statement tables)
  alone-replied answer reply = reply_done (outcome_on files statement tables) tables answer reply
