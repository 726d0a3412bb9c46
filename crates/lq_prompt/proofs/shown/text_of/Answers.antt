-- The tables of the layout are those of the state, and the bytes those of the line.
use Rattle.std.proofs.Common.{◌≡◌, List, ℕ, Option, subst}
use Rattle.std.specs.Str.{IsUtf8}
use Rattle.lq_value.specs.Tables.{Table}
use Rattle.lq_value.specs.declared.ty.Ty.{Ty}
use Rattle.lq_machine.specs.States.{schemas_of}
use Rattle.lq_render.specs.Layouts.{shape_of}
use Rattle.lq_render.specs.Replies.{bytes_text, front_of, line_text}
use Rattle.lq_prompt.specs.Answers.{IsTextOf}
use Rattle.lq_prompt.specs.declared.settings.Settings.{Settings}
use Rattle.lq_prompt.proofs.shown.text_of.Goals as goal

text_is : (settings : Settings) (given tables : List Table) (ty : Option Ty) (bytes line text : List ℕ) → given ≡ tables → bytes ≡ line
    → (IsUtf8 (front_of bytes) → text ≡ line_text (shape_of (schemas_of given) settings.most_rows ty) (front_of bytes))
    → (¬ IsUtf8 (front_of bytes) → text ≡ bytes_text) → IsTextOf settings tables ty line text
text_is settings given tables ty bytes line text same_tables same_bytes read other =
    subst (λ (s : List ℕ). IsTextOf settings tables ty s text) same_bytes
    (subst (λ (ts : List Table). IsTextOf settings ts ty bytes text) same_tables (record { is_text = read; is_sentence = other }))

pub returns : goal.returns
returns c =
    text_is c.args.settings _ _ _ _ _ _ c.store.ensures.value c.bytes.ensures c.in_ok-reply_text.ensures.text c.in_ok-reply_text.ensures.other
