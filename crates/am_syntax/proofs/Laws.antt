-- What proofs of other crates may cite of pieces, tokens, terms, texts and the loops over items.

-- what was taken from the front: nothing, one after another, its words, its length, in two halves
pub use Rattle.am_syntax.proofs.Takes.{Takes-none, Takes-then, Takes-words, Takes-length, Takes-halves, Takes-nothing}
-- tokens that were reached: none taken, after a value; a judge goes forward alone
pub use Rattle.am_syntax.proofs.Advancing.{reached_here, reached_ok, judged_advances}
-- readers look no further than where they stop: a judge's token, another view of a value, one of two that tests pick
pub use Rattle.am_syntax.proofs.Stopping.{judged_alike, seen_alike, picked_alike}
-- how many tokens are taken at least: any, with one token, after one, before more; and where a reader stops then
pub use Rattle.am_syntax.proofs.Stopping.{TakesAtLeast, takes_any, takes_later, takes_next, takes_then, stops_late}
-- readers of readers go forward alone: one after another, seen otherwise, one of two, so many items, as many as come
pub use Rattle.am_syntax.proofs.Advancing.{bind_reached, bind_advances, seen_advances, if_reached, times_advances}
pub use Rattle.am_syntax.proofs.Advancing.{repeat_advances}
-- what a call answers that failed, or that reads ahead of a cursor
pub use Rattle.am_syntax.proofs.Loops.{makes_err, makes_refused, makes_ahead}
-- what a loop does that reads so many items, or items as long as one comes: one more, a failure, the end
pub use Rattle.am_syntax.proofs.Loops.{times_more, times_fails, times_done}
pub use Rattle.am_syntax.proofs.Repeats.{so_far_more, so_far_fails, so_far_done}
-- equal words; a step that wasn't refused
pub use Rattle.am_syntax.proofs.PieceLaws.{bytes_eq-same, same_bytes, ok_is, bind_ok}
-- pieces are exact: one token, a key word, one after another, with key words, another view, what comes next decides,
-- one more
pub use Rattle.am_syntax.proofs.PieceLaws.{token_law, key_law, then_law, keyed_law, closed_law, seen_law}
pub use Rattle.am_syntax.proofs.PieceLaws.{seen_good_law, optional_law, choice_law, choice_by_law, one_more_law}
-- a token that is refused is refused whatever was to be read
pub use Rattle.am_syntax.proofs.PieceLaws.{refused_alike}
-- lists of pieces are exact: so many, or as many as come, where each takes a token at least
pub use Rattle.am_syntax.proofs.ListLaws.{times_law, moves_on, repeat_law}
-- numerals, names and operators are exact; a row of digits passes where it is a numeral in the range
pub use Rattle.am_syntax.proofs.TokenLaws.{number_law, below_law, name_law, operator_law}
pub use Rattle.am_syntax.proofs.TokenLaws.{IsBelow, numeral_passed, numeral_passes}
-- which way a test went; what was found in a table
pub use Rattle.am_syntax.proofs.TokenLaws.{chosen, cond_ok, op_named-name, found_passes, named_some}
-- the decimal text of a number is its numeral, and that of any number is a row of digits
pub use Rattle.am_syntax.proofs.NumeralLaws.{decimal-is_digits, decimal-is_canonical, decimal-is_numeral}
pub use Rattle.am_syntax.proofs.NumeralLaws.{decimal-number_of, digits_of_any, no_digits, digits_decimal_of}
-- the words of each kind of term; a row of digits differs from other words; a small word has a numeral
pub use Rattle.am_syntax.proofs.TermWords.{words-Const, words-Field, words-Node, digits_apart, narrow}
-- the first step of reading a term: a token that is refused, or an operator with its arguments, which goes forward
pub use Rattle.am_syntax.proofs.TermSteps.{argument, after_operator, term_node, term_refused}
pub use Rattle.am_syntax.proofs.Advancing.{args_advances, node_advances, term_advances}
-- terms are exact
pub use Rattle.am_syntax.proofs.TermLaws.{term_law, term_within_law}
-- a text has a value exactly where its piece spells it, and else a first refusal
pub use Rattle.am_syntax.proofs.TextLaws.{text_found, text_read, text_once, text_refused, text_settled, text_closed}
pub use Rattle.am_syntax.proofs.TextLaws.{text_bad}
-- two readers that end alike, and leave the same, and refuse alike for good
pub use Rattle.am_syntax.proofs.TextLaws.{EndAlike, refuses_alike}
-- a word that opens nothing; words that stand apart: a word, those of a term, two rows of them
pub use Rattle.am_syntax.proofs.SpacedLaws.{StandApart, spaced-word, word_apart, term_apart, spaced_apart}
pub use Rattle.am_syntax.proofs.SpacedLaws.{both_apart}
-- the text of each of a list after a space, also after an operator, where the words of each stand apart
pub use Rattle.am_syntax.proofs.SpacedLaws.{EachApart, each_text, spaced_each, node_text, node_apart}
-- the text of each kind of term
pub use Rattle.am_syntax.proofs.SpacedLaws.{text-Const, text-Field, text-Node}
-- a canonical text of tokens has these words, and no bad byte
pub use Rattle.am_syntax.proofs.CanonicalLaws.{spaced_words, line_words, lines_words, spaced_is_text, lines_is_text}
-- digits, names of operators and the words of terms are tokens, and so are those of two rows, and of each of a list
pub use Rattle.am_syntax.proofs.CanonicalLaws.{digits_is_token, op_name_is_token, term_is_tokens, tokens-append}
pub use Rattle.am_syntax.proofs.CanonicalLaws.{all_tokens, printed_reads_back}
-- numerals and names are tokens that stand apart
pub use Rattle.am_syntax.proofs.WordTokens.{number_is_token, number_apart, name_is_token, name_apart}
-- a text that grows toward what is to be written
pub use Rattle.am_syntax.proofs.Growing.{toward_none, toward, toward_stopped, appends_err}
-- what a row of calls appends, and what a loop over items
pub use Rattle.am_syntax.proofs.Appending.{grew_first, grew_next, appends_last, appends_alone, appends_whole}
pub use Rattle.am_syntax.proofs.Appending.{handed_on, appending, grew_item, wrote_item}
