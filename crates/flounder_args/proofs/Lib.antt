mod Asking
mod Levels
mod Making
mod WhatWordsAsk
